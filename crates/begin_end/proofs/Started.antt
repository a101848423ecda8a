-- The first work is the definition's, with an initialiser and without.
use Prim.Native.Nat.{ℕ}
use mathlib.Core.Path.{◌≡◌, sym, ap, ◌∙◌}
use mathlib.Core.List.{List}
use lib.ListN.{get_or, set, replicate}
use borrow.Author.Tests.{ne_eqb}
use Rattle.model.specs.Answer.{pick}
use Rattle.loaded.specs.Holds.{method_cell}
use Rattle.state.specs.View.{Work}
use Rattle.state.specs.Work.{Tables, copy_of, entered}
use Rattle.state.specs.Layout.{entry_w, started_w, first_w}
use Rattle.across_frames.specs.Lent.{on_leave}
use Rattle.begin_end.specs.Beginning.{blank_w}

-- the entry's frame over cells and marks that were blank
abbrev pub entry_of : ℕ → List ℕ → List ℕ → Work
entry_of entry cells marked = on_leave blank_w (record { fp = 0; row = entry; at = 0; sp = 24; made = 0 }) (set cells 58 entry) (replicate 2048 0) marked
    (replicate 256 0)

module _ (P : Tables) (given : List ℕ) (entry : ℕ) {owner r : ℕ} {methods initialisers cells marks marked : List ℕ}
    (em : P.methods ≡ methods) (ei : P.initialisers ≡ initialisers) (ec : cells ≡ copy_of (method_cell methods entry 28) given 0 0 (replicate 2048 0))
    (es : marks ≡ replicate 33 0)
    (mk : marked ≡ set (set marks 1 1) owner 1) (eo : owner ≡ method_cell methods entry 25) (er : r ≡ get_or initialisers owner 0) where
  entry_is : entry_of entry cells marked ≡ entry_w P entry given
  unfolding entry_w
  entry_is = rw (mk, em, eo, ec, es)

  first_row_lem : get_or P.initialisers (method_cell P.methods entry 25) 0 ≡ r
  first_row_lem = rw (ei, em, ← eo) (sym er)

  pub alone : r ≡ 0 → entry_of entry cells marked ≡ first_w P entry given
  unfolding first_w started_w pick
  alone z = rw (first_row_lem, z) entry_is

  pub above : (r ≡ 0 → ⊥) → {w : Work} → w ≡ entered methods (entry_of entry cells marked) r 24 → w ≡ first_w P entry given
  unfolding first_w started_w pick
  above n e =
      let w : entered methods (entry_of entry cells marked) r 24 ≡ entered P.methods (entry_w P entry given) r 24 = rw entry_is (ap (λ
      (m : List ℕ). entered m (entry_w P entry given) r 24) (sym em)) in
      e ∙ (w ∙ rw (first_row_lem, ne_eqb r 0 n))
