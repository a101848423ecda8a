-- Parts of a list that reach its end.
use mathlib.Core.Path.{◌≡◌, sym, ap, ◌∙◌}
use mathlib.Core.List.{List, []}
use native.Mathlib.Numerals.{add-one}
use Prim.Native.Nat.{ℕ, suc, ◌+◌, ◌-◌, ◌≤◌}
use native.Mathlib.Nat.{le_of_eq, add-sub_cancel_left}
use lib.ListN.{length, take, drop, length-drop, drop_of_length-le}
use lib.Seq.{take_all, take-nil}
use Rattle.model.specs.Tables.{part_of}

pub to_end : (k : ℕ) (l : List ℕ) → take (length l - k) (drop k l) ≡ drop k l
to_end k l = take_all (length l - k) (drop k l) (le_of_eq (length-drop k l))

pub after_one : (k : ℕ) (l : List ℕ) → take (length l - (k + 1)) (drop (k + 1) l) ≡ drop (suc k) l
after_one k l = to_end (k + 1) l ∙ ap (λ (n : ℕ). drop n l) (add-one k)

pub part_none : (l : List ℕ) (offset size : ℕ) → length l ≤ offset → [] ≡ part_of l offset size
unfolding part_of
part_none l offset size h = sym (ap (take size) (drop_of_length-le l h) ∙ take-nil size)

pub part_whole : (l : List ℕ) (offset size : ℕ) → take ((offset + size) - offset) (drop offset l) ≡ part_of l offset size
unfolding part_of
part_whole l offset size = ap (λ (k : ℕ). take k (drop offset l)) (add-sub_cancel_left offset size)

pub part_rest : (l : List ℕ) (offset size : ℕ) → length l - offset ≤ size → take (length l - offset) (drop offset l) ≡ part_of l offset size
unfolding part_of
part_rest l offset size h = to_end offset l ∙ sym (take_all size (drop offset l) (rw (length-drop offset l) h))
