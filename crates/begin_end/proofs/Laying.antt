-- Arguments laid one after another.
use Prim.Native.Nat.{ℕ, zero, suc, ◌+◌, ◌≤◌, ◌<◌}
use mathlib.Core.Path.{◌≡◌, refl, sym, ap, subst, ◌∙◌}
use mathlib.Core.List.{List, ◌++◌}
use native.Mathlib.Omega.{arith}
use lib.ListN.{length, get_or, set, drop}
use lib.Seq.{paste, paste-suc}
use Rattle.std.proofs.lemmas.List.Edits.{paste_all}
use Rattle.state.specs.Work.{copy_of}

module _ (src dst : List ℕ) (room : length src ≤ length dst) where
  -- k more after the first i
  rest : (k i : ℕ) → i + k ≡ length src → copy_of k src i i (paste dst 0 src i) ≡ paste dst 0 src (i + k)
  unfolding copy_of
  rest zero i e = let z : i + 0 ≡ i = omega arith in rw z
  rest (suc k) i e =
      let z : 0 + i ≡ i = omega arith in
      let s : i + suc k ≡ suc i + k = omega arith in
      let w : set (paste dst 0 src i) i (get_or src i 0) ≡ paste dst 0 src (suc i) = subst (λ (n : ℕ). set (paste dst 0 src i) n (get_or src i 0) ≡ paste dst 0 src (suc i)) z (paste-suc dst 0 src i 0 (omega arith) (omega arith)) in
      ap (λ (l : List ℕ). copy_of k src (suc i) (suc i) l) w ∙ (rest k (suc i) (omega arith) ∙ ap (λ (n : ℕ). paste dst 0 src n) (sym s))

  pub copied : copy_of (length src) src 0 0 dst ≡ src ++ drop (length src) dst
  copied =
      let z : 0 + length src ≡ length src = omega arith in
      rest (length src) 0 z ∙ (ap (λ (n : ℕ). paste dst 0 src n) z ∙ (paste_all dst 0 src (length src) refl ∙ ap (λ (n : ℕ). src ++ drop n dst) z))
