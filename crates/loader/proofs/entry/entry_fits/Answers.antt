-- `loader::entry::entry_fits` meets its contract.
use native.Mathlib.Omega.{arith}
use Rattle.std.proofs.Common.{◌≤◌, length}
use Rattle.model.specs.Tables.{arguments, method_at}
use Rattle.loader.specs.Rules.{EntryRule}
use Rattle.loader.proofs.Rules.{entry_sort, entry_return, entry_integers, argument_at, type_cell}
use Rattle.loader.proofs.Search.{all_part}
use Rattle.loader.proofs.entry.entry_fits.Goals as goal

pub returns-then-n-row : goal.returns-then-n-row
unfolding EntryRule
returns-then-n-row c = λ code L en s G. λ h. absurd (let t = c.if-n-row.true in omega arith)

pub returns-then-methods-base-ne-STATIC : goal.returns-then-methods-base-ne-STATIC
returns-then-methods-base-ne-STATIC c = λ code L en s G. entry_sort L G c.args.r c.if-methods-base-ne-STATIC.true

pub returns-then-methods-base-ge-OBJECT : goal.returns-then-methods-base-ge-OBJECT
returns-then-methods-base-ge-OBJECT c = λ code L en s G. entry_return L G c.args.r c.if-methods-base-ge-OBJECT.true

pub returns : goal.returns
returns c = λ code L en s G.
    let few : length (arguments (method_at L.methods c.args.r)) ≤ 8 = s.narrow c.args.r in
    let n = argument_at L.methods G c.args.r in
    let e = c.min-count.ensures in
    entry_integers L G c.args.r c.if-methods-base-ne-STATIC.false c.if-methods-base-ge-OBJECT.false _
    (all_part c.args.methods.now _ _ _ c.integers.ensures (arguments (method_at L.methods c.args.r)) (omega arith) (omega arith) (λ k h. type_cell L.methods G c.args.r k (omega arith)))
