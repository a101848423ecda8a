use borrow.Author.Tests.{lt-leb, le-leb}
use Rattle.model.specs.Loading.{within}
use Rattle.across_frames.specs.Lent.{named_sort}
use Rattle.across_frames.proofs.calls.callable.Goals as goal

pub returns-in-Call : goal.returns-in-Call
unfolding named_sort
returns-in-Call c = rw c.in-Call.is

pub returns-then-sort-ge-INSTANCE : goal.returns-then-sort-ge-INSTANCE
unfolding named_sort within
returns-then-sort-ge-INSTANCE c = rw c.in-Callvirt.is (simp (le-leb _ _ c.if-sort-ge-INSTANCE.true))

pub returns-else-sort-ge-INSTANCE : goal.returns-else-sort-ge-INSTANCE
unfolding named_sort within
returns-else-sort-ge-INSTANCE c = rw c.in-Callvirt.is (simp (lt-leb _ _ c.if-sort-ge-INSTANCE.false))
