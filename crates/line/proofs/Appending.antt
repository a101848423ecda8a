-- Appends one after the other, and what a buffer holds where there is room.
use mathlib.Core.Path.{◌≡◌, refl, sym, ap, ◌∙◌}
use mathlib.Core.List.{List, [], ◌∷◌, ◌++◌}
use Prim.Native.Nat.{ℕ, zero, suc, ◌+◌, ◌≤◌, ◌<◌}
use native.Mathlib.Nat.{add-zero, suc-add, zero-add}
use native.Mathlib.Numerals.{add-one}
use native.Mathlib.Omega.{arith}
use lib.ListN.{length, take, get_or, set, length-append}
use lib.Seq.{sets, set_out, length-sets, sets-eq, length-take-le, take_at, take-suc}
use borrow.Author.Tests.{lt-ltb, le-ltb}
use Rattle.model.specs.Answer.{pick}
use Rattle.integers.proofs.Tests.{by_less}
use Rattle.line.specs.Append.{next, past, appended, Appended}
use Rattle.line.specs.declared.text.Text.{Text}

-- ---- Places

next_in : (room at : ℕ) → at < room → next room at ≡ suc at
unfolding next pick
next_in room at h = simp (lt-ltb at room h)

next_out : (room at : ℕ) → room ≤ at → next room at ≡ suc room
unfolding next pick
next_out room at h = simp (le-ltb at room h)

past_add : (room at m n : ℕ) → past room at (m + n) ≡ past room (past room at m) n
unfolding past
past_add room at zero n = ap (past room at) (zero-add n)
past_add room at (suc m) n = ap (past room at) (suc-add m n) ∙ past_add room (next room at) m n

past_in : (room at n : ℕ) → at + n ≤ room → past room at n ≡ at + n
unfolding past
past_in room at zero h = sym (add-zero at)
past_in room at (suc n) h =
    ap (λ (k : ℕ). past room k n) (next_in room at (omega arith)) ∙ past_in room (suc at) n (omega arith) ∙ omega arith

past_over : (room at n : ℕ) → room < at + n → room < past room at n
unfolding past
past_over room at zero h = omega arith
past_over room at (suc n) h =
    by_less at room
    (λ k. rw (next_in room at k) (past_over room (suc at) n (omega arith)))
    (λ k. rw (next_out room at k) (past_over room (suc room) n (omega arith)))

-- ---- Bytes

sets_out : (t s : List ℕ) (at : ℕ) → length s ≤ at → sets s at t ≡ s
sets_out [] s at h = refl
sets_out (b ∷ t) s at h = ap (λ (l : List ℕ). sets l (suc at) t) (set_out s at b h) ∙ sets_out t s (suc at) (omega arith)

sets_append : (t u s : List ℕ) (at : ℕ) → sets s at (t ++ u) ≡ sets (sets s at t) (at + length t) u
sets_append [] u s at = ap (λ (k : ℕ). sets s k u) (sym (add-zero at))
sets_append (b ∷ t) u s at =
    sets_append t u (set s at b) (suc at) ∙ ap (λ (k : ℕ). sets (sets (set s at b) (suc at) t) k u) (omega arith)

-- a place past the end writes nothing, whichever it is
sets_past : (u s : List ℕ) (n at : ℕ) → sets s (past (length s) at n) u ≡ sets s (at + n) u
unfolding past
sets_past u s zero at = ap (λ (k : ℕ). sets s k u) (sym (add-zero at))
sets_past u s (suc n) at =
    by_less at (length s)
    (λ h. rw (next_in (length s) at h) (sets_past u s n (suc at) ∙ ap (λ (k : ℕ). sets s k u) (omega arith)))
    (λ h. rw (next_out (length s) at h)
    (sets_past u s n (suc (length s)) ∙ sets_out u s (suc (length s) + n) (omega arith) ∙ sym (sets_out u s (at + suc n) (omega arith))))

-- ---- Appends

-- bytes and place say the rest
by_place : {s t s' : List ℕ} {at at' : ℕ} → s' ≡ sets s at t → at' ≡ past (length s) at (length t) → Appended s at t s' at'
by_place {s} {t} {s'} {at} {at'} b p =
    record {
      bytes = b;
      place = p;
      held = λ h.
          let e : at' ≡ at + length t = p ∙ past_in (length s) at (length t) h in
          let k : length (take at s ++ t) ≡ at + length t = length-append (take at s) t ∙ ap (λ (n : ℕ). n + length t) (length-take-le at s (omega arith)) in
          (e, ap (λ (n : ℕ). take n s') e ∙ ap (take (at + length t)) (b ∙ sets-eq t s at h) ∙ take_at (take at s ++ t) _ (at + length t) k);
      over = λ h. rw p (past_over (length s) at (length t) h);
    }

-- ---- Texts

pub added_none : (a : Text) → a ≡ appended a []
unfolding appended past
added_none a = refl

-- a text in two parts is one after the other
pub added_parts : (a : Text) (t u : List ℕ) → appended a (t ++ u) ≡ appended (appended a t) u
unfolding appended
added_parts a t u =
    sym
    (
    let room = length a.out.now in
    let held = sets a.out.now a.at t in
    let bytes : sets held (past room a.at (length t)) u ≡ sets a.out.now a.at (t ++ u) =
    ap (λ (k : ℕ). sets held (past k a.at (length t)) u) (sym (length-sets a.out.now a.at t)) ∙ sets_past u held (length t) a.at
    ∙ sym (sets_append t u a.out.now a.at) in
    let place : past (length held) (past room a.at (length t)) (length u) ≡ past room a.at (length (t ++ u)) =
    ap (λ (k : ℕ). past k (past room a.at (length t)) (length u)) (length-sets a.out.now a.at t)
    ∙ sym (past_add room a.at (length t) (length u)) ∙ ap (past room a.at) (sym (length-append t u)) in
    ap (λ (s : List ℕ). record a { out = record a.out { now = s }; at = past (length held) (past room a.at (length t)) (length u) }) bytes
    ∙ ap (λ (n : ℕ). record a { out = record a.out { now = sets a.out.now a.at (t ++ u) }; at = n }) place)

-- the same text, said otherwise
pub same : (a b : Text) (t u : List ℕ) → b ≡ appended a t → t ≡ u → b ≡ appended a u
same a b t u p e = p ∙ ap (appended a) e

pub added_then : (a b c : Text) (t u : List ℕ) → b ≡ appended a t → c ≡ appended b u → c ≡ appended a (t ++ u)
added_then a b c t u p q = q ∙ ap (λ (x : Text). appended x u) p ∙ sym (added_parts a t u)

-- the next byte of a text that is copied
pub added_next : (a b c : Text) (t : List ℕ) (i : ℕ) → i < length t → b ≡ appended a (take i t) → c ≡ appended b (get_or t i 0 ∷ []) → c ≡ appended a (take (i + 1) t)
added_next a b c t i h p q =
    added_then a b c (take i t) (get_or t i 0 ∷ []) p q
    ∙ ap (appended a) (sym (ap (λ (k : ℕ). take k t) (add-one i) ∙ take-suc t i 0 h))

-- one byte: stored where it has room, dropped where it has none
pub put_in : (a : Text) (b : ℕ) → a.at < length a.out.now
    → record a { out = record a.out { now = set a.out.now a.at b }; at = a.at + 1 } ≡ appended a (b ∷ [])
unfolding appended past
put_in a b h =
    ap (λ (k : ℕ). record a { out = record a.out { now = set a.out.now a.at b }; at = k }) (add-one a.at ∙ sym (next_in (length a.out.now) a.at h))

pub put_out : (a : Text) (b : ℕ) → length a.out.now ≤ a.at → record a { at = length a.out.now + 1 } ≡ appended a (b ∷ [])
unfolding appended past
put_out a b h =
    ap (λ (s : List ℕ). record a { out = record a.out { now = s }; at = length a.out.now + 1 }) (sym (set_out a.out.now a.at b h))
    ∙ ap (λ (k : ℕ). record a { out = record a.out { now = set a.out.now a.at b }; at = k })
    (add-one (length a.out.now) ∙ sym (next_out (length a.out.now) a.at h))

-- what a buffer holds where a text that was taken up in it has grown
pub held : (s : List ℕ) (at : ℕ) (a b : Text) (t s' : List ℕ) (r : ℕ) → a.out.now ≡ s → a.at ≡ at → b ≡ appended a t → s' ≡ b.out.now → r ≡ b.at
    → Appended s at t s' r
unfolding appended
held s at a b t s' r p q e y z = rw (← p, ← q, y, z) (by_place (ap (λ (x : Text). x.out.now) e) (ap (λ (x : Text). x.at) e))

-- and where nothing was
pub nothing : (s : List ℕ) (at : ℕ) → Appended s at [] s at
unfolding past
nothing s at = by_place refl refl

pub same_buffer : (a b : Text) (t : List ℕ) → b ≡ appended a t → b.out.ghost_name ≡ a.out.ghost_name
unfolding appended
same_buffer a b t e = ap (λ (x : Text). x.out.ghost_name) e
