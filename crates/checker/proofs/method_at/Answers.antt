-- `method_at` meets its contract: the arrays hold the method at the row, and its code.
use Rattle.checker.proofs.Whole.{held, held_code, passing_size}
use Rattle.checker.specs.Answers.{lent}
use lib.ListN.{length}
use mathlib.Core.List.{List}
use mathlib.Core.Path.{sym, ap, ◌∙◌, subst}
use Prim.Native.Nat.{ℕ, ◌≤◌}
use Rattle.checker.proofs.method_at.Goals as goal

pub returns : goal.returns
returns c =
    λ M m i B H e R.
    let q = held_code M c.args.code.now (lent c.args.loaded.now i) B H c.args.row m e ∙ sym c.part-body.ensures in
    let t = c.method.ensures M m c.requires.groups (held M c.args.code.now (lent c.args.loaded.now i) B H c.args.row m e) q
    (subst (λ (l : List ℕ). length l ≤ 1024) q (B.size c.args.row m e)) R in
    (t.0, λ z. passing_size (sym (ap (λ (l : List ℕ). length l) q)) (t.1 z))
