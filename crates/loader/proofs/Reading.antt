-- Record after record: what is still to be read, and how reading ends.
use mathlib.Core.Path.{◌≡◌, refl, sym, ap, ◌∙◌, subst}
use Prim.Native.Nat.{ℕ, zero, suc, ◌+◌, ◌-◌, ◌*◌, ◌≤◌, ◌<◌}
use mathlib.Core.Bool.{Bool, true, false}
use mathlib.Core.Option.{Option, none, some}
use mathlib.Core.List.{List, []}
use native.Mathlib.Omega.{arith}
use lib.ListN.{length, get_or, drop, replicate, length-replicate, length-drop}
use lib.Seq.{get_or-drop}
use lib.Dec.{ltb, eqb}
use borrow.Author.Tests.{le-leb, lt-leb, lt-ltb, le-ltb}
use Rattle.model.specs.Answer.{Answer, bad, ok, ◌>>=◌, guard, need, blame, pick, or_else, only_if, is_none, at, row, those, first_row}
use Rattle.model.specs.Tables.{Method, part_of, no_method, method_at, arguments, this_of, parent_of, root, initialiser_of}
use Rattle.model.specs.Loading.{Loading, Refusal as Refused, refusal, nothing, body_bytes, Read, one_record, read_record, records}
use Rattle.loaded.specs.Holds.{byte_at, from_row, zeros, no_counts, nothing as nothing_loaded}
use Rattle.std.specs.Prelude.{Ok, Err, ⊤}
use Rattle.loaded.specs.declared.Fault.{Fault}
use Rattle.loaded.specs.declared.Loaded.{Loaded}
use Rattle.loader.specs.declared.notes.Notes.{Notes}
use Rattle.loader.specs.declared.refusal.Refusal.{Refusal}
use Rattle.loader.specs.declared.refusal.Refusal.TheVariants.{BadRecord}
use Rattle.loader.specs.declared.kind.Kind.{Kind}
use Rattle.loader.specs.declared.kind.Kind.TheVariants.{Class, Field, Method as MethodKind, Parameter, Local, Entry}
use Rattle.loader.specs.Refusals.{number_of, fault_of}
use Rattle.loader.specs.Answers.{Answers}
use Rattle.loader.specs.Kinds.{kind_byte}
use Rattle.loader.specs.Goes.{Goes}
use Rattle.loader.specs.Stands.{Column, Grid, field_at, method_column, root_at, method_cell, part_cell, Sound, Stands, Leads, Passes, counts_of, no_notes}
use Rattle.ancestor.specs.Parents.{Falls}
use Rattle.loader.proofs.Classes.{no_field}
use Rattle.loader.proofs.Methods.{column_none}

-- ---- Nothing yet

zero_at : (n i : ℕ) → ◌≡◌ {A = ℕ} (get_or (replicate n 0) i 0) 0
zero_at zero i = refl
zero_at (suc n) zero = refl
zero_at (suc n) (suc i) = zero_at n i

zeros_long : (n : ℕ) → length (zeros n) ≡ n
zeros_long n = length-replicate n 0

none_row : {A : Type 0} (r : ℕ) → row {A = A} [] r ≡ none
unfolding row at
none_row zero = refl
none_row (suc r) = refl

empty_column : (n : ℕ) → Column n [] (zeros n)
unfolding or_else
empty_column n = record { long = zeros_long n; each = λ r. zero_at n r ∙ sym (ap (λ (o : Option ℕ). or_else o 0) (none_row r)) }

empty_grid : (w n : ℕ) (f : ℕ → ℕ → ℕ) → ((r k : ℕ) → k < w → f r k ≡ 0) → Grid w n f (zeros n)
empty_grid w n f e = record { long = zeros_long n; each = λ r k h. zero_at n (r * w + k) ∙ sym (e r k h) }

no_method_lem : (r : ℕ) → method_at [] r ≡ no_method
unfolding method_at or_else
no_method_lem r = ap (λ (o : Option Method). or_else o no_method) (none_row r)

pub no_parent : Falls []
unfolding Falls parent_of or_else
no_parent c h = subst (λ (o : Option ℕ). or_else o 0 < c) (sym (none_row c)) h

missing : {A X : Type 0} (r : ℕ) (d : A) → row [] r ≡ some d → X
missing {A = A} r d q = let z : ◌≡◌ {A = ℕ} 0 1 = cc (none_row {A = A} r) in absurd (omega arith)

no_cell : (r k : ℕ) → k < 32 → method_cell [] r k ≡ 0
unfolding method_cell root_at from_row
no_cell r k h = ap (λ (o : Option Method). method_column (from_row (λ (m : Method). root [] r) o) (method_at [] r) k) (none_row r) ∙ ap (λ (m : Method). method_column 0 m k) (no_method_lem r) ∙ column_none k h

no_part : (r k : ℕ) → part_cell [] r k ≡ 0
unfolding part_cell no_method pick
no_part r k = ap (λ (m : Method). pick (eqb k 0) m.offset (length m.code)) (no_method_lem r) ∙ go (eqb k 0)
  where
    go : (b : Bool) → ◌≡◌ {A = ℕ} (pick b 0 0) 0
    go true = refl
    go false = refl

no_sound : (code : List ℕ) → Sound code []
unfolding no_method arguments this_of part_of is_none byte_at
no_sound code = record {
  earlier = λ r h. subst (λ (m : Method). m.overridden < r) (sym (no_method_lem r)) h;
  dispatched = λ r h. absurd (let z : (method_at [] r).overridden ≡ 0 = ap (λ (m : Method). m.overridden) (no_method_lem r) in omega arith);
  part = λ r. subst (λ (m : Method). m.code ≡ part_of code m.offset (length m.code)) (sym (no_method_lem r)) refl;
  narrow = λ r. subst (λ (m : Method). length (arguments m) ≤ 8) (sym (no_method_lem r)) (omega arith);
  void = λ r. subst (λ (m : Method). is_none m.returns ≡ eqb (byte_at m.returns) 0) (sym (no_method_lem r)) refl;
}

nothing_stands : (code : List ℕ) → Stands code nothing nothing_loaded no_notes
unfolding nothing nothing_loaded no_counts no_notes counts_of those initialiser_of first_row or_else
nothing_stands code = record {
  counted = refl;
  last = refl;
  classes = record { parent = empty_column 33; falls = no_parent; few = omega arith };
  fields = record {
    own_long = zeros_long 33;
    own_each = λ c. zero_at 33 c;
    cell = empty_grid 4 516 (field_at [] []) (λ r k h. no_field [] r k);
    rising = λ r d q. missing r d q;
    few = omega arith;
  };
  methods = record {
    initialiser = record { long = zeros_long 33; each = λ c. zero_at 33 c };
    cell = empty_grid 32 4128 (method_cell []) no_cell;
    part = empty_grid 2 258 (part_cell []) (λ r k h. no_part r k);
    sound = no_sound code;
    few = omega arith;
  };
  place = empty_column 129;
  placed = refl;
  fieldless = λ h. refl;
  begun = λ p q. absurd (omega arith);
}

-- ---- What is still to be read at an offset

pub record Going (tables code : List ℕ) (at : ℕ) (N : Loaded) (S : Notes) : Type 0 where
  pub loading : Loading
  pub fuel : ℕ
  pub enough : length tables - at ≤ fuel
  pub rest : records (length tables) tables code 0 nothing ≡ records fuel tables code at loading
  pub stands : Stands code loading N S

pub start : (tables code : List ℕ) (N : Loaded) (S : Notes) → N ≡ nothing_loaded → S ≡ no_notes → Going tables code 0 N S
start tables code N S eN eS = record {
  loading = nothing;
  fuel = length tables;
  enough = omega arith;
  rest = refl;
  stands = subst (λ (M : Loaded). Stands code nothing M S) (sym eN) (subst (Stands code nothing nothing_loaded) (sym eS) (nothing_stands code));
}

-- the refusal of a record at a place
abbrev pub refused_at : ℕ → ℕ → Refused
refused_at p n = record { number = n; place = p }

-- one record, and what is left behind it
one : (tables code : List ℕ) (at : ℕ) (L : Loading) (k : ℕ) → at < length tables → length tables - at ≤ k
    → (j : ℕ) × (length tables - at ≤ suc j) × (records k tables code at L ≡ (blame (refused_at at) (read_record code L at (drop at tables)) >>= λ R. records j tables code (at + R.size) R.loading))
unfolding records pick refusal
one tables code at L zero l e = absurd (omega arith)
one tables code at L (suc k) l e =
    (k, e, ap (λ (b : Bool). pick b (ok L) (blame (refused_at at) (read_record code L at (drop at tables)) >>= λ R. records k tables code (at + R.size) R.loading)) (lt-leb (length tables) at l))

module _ (tables code : List ℕ) (at : ℕ) (N : Loaded) (S : Notes) (G : Going tables code at N S) where
  stop : (n : ℕ) → at < length tables → read_record code G.loading at (drop at tables) ≡ bad n → records (length tables) tables code 0 nothing ≡ bad (refused_at at n)
  unfolding blame ◌>>=◌
  stop n l e =
      let o = one tables code at G.loading G.fuel l G.enough in
      G.rest ∙ o.2 ∙ ap (λ (a : Answer ℕ Read). blame (refused_at at) a >>= λ R. records o.0 tables code (at + R.size) R.loading) e

  go_on : (K : Loading) (s : ℕ) (M : Loaded) (R : Notes) → at < length tables → 1 ≤ s
      → read_record code G.loading at (drop at tables) ≡ ok (record { loading = K; size = s }) → Stands code K M R → Going tables code (at + s) M R
  unfolding blame ◌>>=◌
  go_on K s M R l lo e Z =
      let o = one tables code at G.loading G.fuel l G.enough in
      let q = o.1 in
      record {
        loading = K;
        fuel = o.0;
        enough = omega arith;
        rest = G.rest ∙ o.2 ∙ ap (λ (a : Answer ℕ Read). blame (refused_at at) a >>= λ R. records o.0 tables code (at + R.size) R.loading) e;
        stands = Z;
      }

  done : length tables ≤ at → records (length tables) tables code 0 nothing ≡ ok G.loading
  unfolding records pick refusal
  done h = G.rest ∙ last G.fuel
    where
      last : (k : ℕ) → records k tables code at G.loading ≡ ok G.loading
      last zero = refl
      last (suc k) = ap (λ (b : Bool). pick b (ok G.loading) (blame (refused_at at) (read_record code G.loading at (drop at tables)) >>= λ R. records k tables code (at + R.size) R.loading)) (le-leb (length tables) at h)

-- ---- One record's kind and size

-- a kind's record has that many body bytes
known : (k : Kind) → body_bytes (kind_byte k) ≡ some (or_else (body_bytes (kind_byte k)) 0)
unfolding body_bytes or_else pick only_if
known Class = refl
known Field = refl
known MethodKind = refl
known Parameter = refl
known Local = refl
known Entry = refl

-- a kind whose bytes end too early is none whose bytes are there
pub cut : (tables : List ℕ) (at : ℕ) (k : Kind) → kind_byte k ≡ get_or tables at 0 → length tables - at ≤ or_else (body_bytes (kind_byte k)) 0
    → (n : ℕ) → body_bytes (get_or tables at 0) ≡ some n → length tables ≤ at + n
unfolding or_else
cut tables at k e h n q =
    let z : or_else (body_bytes (kind_byte k)) 0 ≡ n = ap (λ (b : ℕ). or_else (body_bytes b) 0) e ∙ ap (λ (o : Option ℕ). or_else o 0) q in
    omega arith

-- a byte that declares no kind
pub unknown : (tables : List ℕ) (at : ℕ) → body_bytes (get_or tables at 0) ≡ none → (n : ℕ) → body_bytes (get_or tables at 0) ≡ some n → length tables ≤ at + n
unknown tables at e n q = let z : ◌≡◌ {A = ℕ} 0 1 = cc in absurd (omega arith)

module _ (tables code : List ℕ) (at : ℕ) (L : Loading) where
  kind_at_lem : get_or (drop at tables) 0 0 ≡ get_or tables at 0
  kind_at_lem = get_or-drop at tables 0 0 ∙ ap (λ (i : ℕ). get_or tables i 0) same
    where
      same : at + 0 ≡ at
      same = omega arith

  abbrev rest : ℕ → ℕ → ℕ → Answer ℕ Read
  rest n long k = guard (ltb n long) 2 >>= λ _. one_record code L at k (drop 1 (drop at tables)) >>= λ K. ok (record { loading = K; size = n + 1 })

  -- a record by its body bytes
  by_size : (o : Option ℕ) → body_bytes (get_or tables at 0) ≡ o → read_record code L at (drop at tables) ≡ (need o 2 >>= λ n. rest n (length tables - at) (get_or tables at 0))
  unfolding read_record
  by_size o e =
      ap (λ (o : Option ℕ). need o 2 >>= λ n. rest n (length (drop at tables)) (get_or (drop at tables) 0 0)) (ap body_bytes kind_at_lem ∙ e)
      ∙ ap (λ (i : ℕ). need o 2 >>= λ n. rest n i (get_or (drop at tables) 0 0)) (length-drop at tables)
      ∙ ap (λ (k : ℕ). need o 2 >>= λ n. rest n (length tables - at) k) kind_at_lem

  unread : at < length tables → ((n : ℕ) → body_bytes (get_or tables at 0) ≡ some n → length tables ≤ at + n) → read_record code L at (drop at tables) ≡ bad 2
  unfolding need guard ◌>>=◌
  unread l h = go (body_bytes (get_or tables at 0)) refl
    where
      go : (o : Option ℕ) → body_bytes (get_or tables at 0) ≡ o → read_record code L at (drop at tables) ≡ bad 2
      go none e = by_size none e
      go (some n) e =
          let w = h n e in
          by_size (some n) e ∙ ap (λ (b : Bool). guard b 2 >>= λ _. one_record code L at (get_or tables at 0) (drop 1 (drop at tables)) >>= λ K. ok (record { loading = K; size = n + 1 })) (le-ltb n (length tables - at) (omega arith))

  read : (k : Kind) → kind_byte k ≡ get_or tables at 0 → at + or_else (body_bytes (kind_byte k)) 0 < length tables →
      read_record code L at (drop at tables) ≡ (one_record code L at (kind_byte k) (drop 1 (drop at tables)) >>= λ K. ok (record { loading = K; size = or_else (body_bytes (kind_byte k)) 0 + 1 }))
  unfolding need guard ◌>>=◌
  read k e h =
      by_size (some (or_else (body_bytes (kind_byte k)) 0)) (ap body_bytes (sym e) ∙ known k)
      ∙ ap (λ (b : Bool). guard b 2 >>= λ _. one_record code L at (get_or tables at 0) (drop 1 (drop at tables)) >>= λ K. ok (record { loading = K; size = or_else (body_bytes (kind_byte k)) 0 + 1 })) (lt-ltb (or_else (body_bytes (kind_byte k)) 0) (length tables - at) (omega arith))
      ∙ ap (λ (i : ℕ). one_record code L at i (drop 1 (drop at tables)) >>= λ K. ok (record { loading = K; size = or_else (body_bytes (kind_byte k)) 0 + 1 })) (sym e)

  -- ---- How a record passes

  -- 2: an unknown kind or a missing body byte
  pub passes_cut : at < length tables → (e : Refusal) → e ≡ BadRecord → ((n : ℕ) → body_bytes (get_or tables at 0) ≡ some n → length tables ≤ at + n) → (N : Loaded) (S : Notes) → Passes code (read_record code L at (drop at tables)) at (Err e) N S
  unfolding Passes
  passes_cut l e q h N S = subst (λ (m : Answer ℕ Read). Passes code m at (Err e) N S) (sym (unread l h)) (ap number_of q, omega arith, omega arith)

  module _ (k : Kind) (e : kind_byte k ≡ get_or tables at 0) (h : at + or_else (body_bytes (kind_byte k)) 0 < length tables) (N : Loaded) (S : Notes) where
    -- 3 to 6
    pub passes_bad : (d : Refusal) → Leads code (one_record code L at (kind_byte k) (drop 1 (drop at tables))) (Err d) N S → Passes code (read_record code L at (drop at tables)) at (Err d) N S
    unfolding Passes Goes ◌>>=◌
    passes_bad d goes = subst (λ (m : Answer ℕ Read). Passes code m at (Err d) N S) (sym (read k e h)) (go (one_record code L at (kind_byte k) (drop 1 (drop at tables))) goes)
      where
        go : (m : Answer ℕ Loading) → Leads code m (Err d) N S → Passes code (m >>= λ K. ok (record { loading = K; size = or_else (body_bytes (kind_byte k)) 0 + 1 })) at (Err d) N S
        go (bad n) w = w
        go (ok K) w = absurd w

    pub passes_ok : (v : ⊤) → Leads code (one_record code L at (kind_byte k) (drop 1 (drop at tables))) (Ok v) N S
        → (i : ℕ) → i ≡ at + or_else (body_bytes (kind_byte k)) 0 + 1 → Passes code (read_record code L at (drop at tables)) at (Ok i) N S
    unfolding Passes Goes ◌>>=◌
    passes_ok v goes i ei = subst (λ (m : Answer ℕ Read). Passes code m at (Ok i) N S) (sym (read k e h)) (go (one_record code L at (kind_byte k) (drop 1 (drop at tables))) goes)
      where
        go : (m : Answer ℕ Loading) → Leads code m (Ok v) N S → Passes code (m >>= λ K. ok (record { loading = K; size = or_else (body_bytes (kind_byte k)) 0 + 1 })) at (Ok i) N S
        go (bad n) w = absurd w
        go (ok K) w = (omega arith, w)

-- ---- Each way that reading ends

-- a refusal, by its fault
pub refuses : {V M : Type 0} (m : Answer Refused M) (p n : ℕ) → m ≡ bad (refused_at p n) → 1 ≤ n → (a : Fault) → a ≡ fault_of (refused_at p n) → (loaded : V → M → Type 0) → Answers m (Err a) ⊤ loaded
unfolding Answers
refuses m p n e h a ea loaded = subst (λ (x : Answer Refused _). Answers x (Err a) ⊤ loaded) (sym e) (ea, h, tt)

module _ (tables code : List ℕ) (at : ℕ) (N : Loaded) (S : Notes) (G : Going tables code at N S) where
  -- 2 to 6: at the record
  pub reads_record : at < length tables → (d : Refusal) (M : Loaded) (R : Notes) → Passes code (read_record code G.loading at (drop at tables)) at (Err d) M R
      → (a : Fault) → a ≡ fault_of (refused_at at (number_of d)) → {V : Type 0} (loaded : V → Loading → Type 0) → Answers (records (length tables) tables code 0 nothing) (Err a) ⊤ loaded
  unfolding Passes
  reads_record l d M R passes a ea loaded = go (read_record code G.loading at (drop at tables)) refl passes
    where
      go : (m : Answer ℕ Read) → read_record code G.loading at (drop at tables) ≡ m → Passes code m at (Err d) M R → Answers (records (length tables) tables code 0 nothing) (Err a) ⊤ loaded
      go (bad n) e w = refuses _ at (number_of d) (stop tables code at N S G (number_of d) l (e ∙ ap bad (sym w.0))) (let q = w.0 in let lo = w.1 in omega arith) a ea loaded
      go (ok K) e w = absurd w

  pub goes_on : at < length tables → (i : ℕ) → at < i → (M : Loaded) (R : Notes) → Passes code (read_record code G.loading at (drop at tables)) at (Ok i) M R → Going tables code i M R
  unfolding Passes
  goes_on l i h M R passes = go (read_record code G.loading at (drop at tables)) refl passes
    where
      go : (m : Answer ℕ Read) → read_record code G.loading at (drop at tables) ≡ m → Passes code m at (Ok i) M R → Going tables code i M R
      go (bad n) e w = absurd w
      go (ok K) e w = subst (λ (i : ℕ). Going tables code i M R) (sym w.0) (go_on tables code at N S G K.loading K.size M R l (let q = w.0 in omega arith) e w.1)

  -- every record is taken
  pub reads_all : length tables ≤ at → {V : Type 0} (v : V) → Answers (records (length tables) tables code 0 nothing) (Ok v) ⊤ (λ u L. Stands code L N S)
  unfolding Answers
  reads_all h v = subst (λ (x : Answer Refused Loading). Answers x (Ok v) ⊤ (λ u L. Stands code L N S)) (sym (done tables code at N S G h)) G.stands
