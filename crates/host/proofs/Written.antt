-- What a host finds in its cells, by how many it lends.
use mathlib.Core.Path.{◌≡◌}
use mathlib.Core.Bool.{Bool, true, false, ◌&&◌}
use mathlib.Core.List.{List}
use Prim.Native.Nat.{ℕ, ◌≤◌, ◌<◌}
use borrow.Author.Tests.{le-leb, lt-leb}
use lib.ListN.{length}
use Rattle.model.specs.Answer.{Answer, bad, ok, pick}
use Rattle.model.specs.Loading.{Refusal}
use Rattle.model.specs.Run as Run
use Rattle.runner.specs.Answers.{Answers}
use Rattle.runner.specs.declared.Ended.{Ended}
use Rattle.host.specs.Hosting.{lends, status, over, written, ended_by}

-- ---- How many cells are lent

module _ (n : ℕ) (l : List ℕ) where
  pub enough : n ≤ length l → lends n l ≡ true
  unfolding lends
  enough h = le-leb n (length l) h

  pub too_few : length l < n → lends n l ≡ false
  unfolding lends
  too_few h = lt-leb n (length l) h

  module _ (m : ℕ) (k : List ℕ) where
    pub first_few : length l < n → lends n l && lends m k ≡ false
    first_few h = rw (too_few h)

    pub second_few : n ≤ length l → length k < m → lends n l && lends m k ≡ false
    unfolding lends
    second_few h g = rw (enough h) (lt-leb m (length k) g)

    pub both_enough : n ≤ length l → m ≤ length k → lends n l && lends m k ≡ true
    unfolding lends
    both_enough h g = rw (enough h) (le-leb m (length k) g)

-- ---- What is said of them, and what they have then

module _ {e : Bool} (h : e ≡ false) where
  pub refused : 1 ≡ status e
  unfolding status pick
  refused = rw h

  pub unwritten : (answer cells : List ℕ) → cells ≡ written e answer cells
  unfolding written pick
  unwritten answer cells = rw h

module _ {e : Bool} (h : e ≡ true) where
  pub done : 0 ≡ status e
  unfolding status pick
  done = rw h

  pub as_written : (answer cells after : List ℕ) → after ≡ over answer cells → after ≡ written e answer cells
  unfolding written pick
  as_written answer cells after a = rw h a

-- the run's answer, by equality
pub ended : (a : Answer Refusal Run.Ended) (e : Ended) → Answers a e → e ≡ ended_by a
unfolding Answers ended_by
ended (bad f) e h = h
ended (ok x) e h = h.exact
