-- A line at the start of a buffer, and what a write of it says of a known input.
use Rattle.std.proofs.Common.{◌≡◌, ◌≤◌, ◌+◌, ℕ, List, length, take, Option, None, Some, Result, Ok, Err, OnOk, IfSome, ap, ◌∙◌, arith, subst, ◌++◌, drop}
use Rattle.std.specs.Io.KnownBytes.{Appends}
use Rattle.std.proofs.Math.Seq.{take-append_seam, length-sets}
use Rattle.std.proofs.lemmas.List.Edits.{sets, sets-eq}
use Rattle.model.specs.Tables.{part_of}

pub written : (l old new : List ℕ) (k : ℕ) → new ≡ sets old 0 l → k ≡ length l → k ≤ length new → part_of new 0 k ≡ l
unfolding part_of
written l old new k is e room =
    let long : length new ≡ length old = ap length is ∙ length-sets old 0 l in
    let from : 0 + length l ≡ length l = omega arith in
    let fits : 0 + length l ≤ length old = omega (arith, e, room, long) in
    ap (take k) (is ∙ sets-eq l old 0 fits) ∙ ap (λ (n : ℕ). take n (l ++ drop (0 + length l) old)) e ∙ take-append_seam l _

pub known_by : (known : Option (List ℕ)) (P Q : List ℕ → Type 0) → ((input : List ℕ) → P input → Q input) → IfSome known P → IfSome known Q
known_by None P Q f h = tt
known_by (Some input) P Q f h = f input h

pub delivered : {A E : Type 0} (r : Result A E) (known old new : Option (List ℕ)) (line : List ℕ) (f : List ℕ → List ℕ) → OnOk r (Appends old new line) → IfSome known (λ input. line ≡ f input) → OnOk r (IfSome known (λ input. Appends old new (f input)))
delivered (Ok v) (Some input) old new line f a e = subst (Appends old new) e a
delivered (Ok v) None old new line f a e = tt
delivered (Err v) (Some input) old new line f a e = tt
delivered (Err v) None old new line f a e = tt
