-- Loading: record by record, in each 2, 3, 4, 5, 6 in that order; then the missing entry, then 7.
use Rattle.std.specs.Prelude.{ℕ, zero, suc, ◌+◌, ◌-◌, ◌*◌, Bool, true, false, not, ◌&&◌, ◌||◌, List, [], ◌∷◌, ◌++◌, length, get_or, drop, leb, ltb, eqb}
use Rattle.std.proofs.Math.Option.{Option, none, some}
use Rattle.model.specs.Answer.{Answer, bad, ok, ◌>>=◌, ◌>>◌, guard, need, blame, pick, only_if, map_option, is_none, those, first_row, last_of, on_last}
use Rattle.model.specs.Tables.{most_tables, most_code, most_classes, most_fields, most_statics, most_methods, most_instance, most_arguments, most_locals}
use Rattle.model.specs.Tables.{most_stack, most_length}
use Rattle.model.specs.Tables.{Ty, int32, int64, F, null, class, eq_ty, eq_tys, type_at, static, virtual, constructor, initialiser, sort_at, is_sort, Field}
use Rattle.model.specs.Tables.{Method, Module, part_of, no_method, method_at, arguments, descends, layout, is_static_field, root, of_root, initialiser_of}

-- a refusal: its number and place
pub record Refusal : Type 0 where
  pub number : ℕ
  pub place : ℕ

unfoldable pub refusal : ℕ → ℕ → Refusal
refusal n p = record { number = n; place = p }

-- numbers longer than a byte are little-endian: the first n bytes of a list
unfoldable pub little : ℕ → List ℕ → ℕ
little zero l = 0
little (suc n) [] = 0
little (suc n) (b ∷ l) = b + 256 * little n l

-- ---- What is loaded so far

-- `last` is the kind of the last record, 0 before the first; `places` are the offsets of the methods' records
pub record Loading : Type 0 where
  pub last : ℕ
  pub parents : List ℕ
  pub fields : List Field
  pub methods : List Method
  pub places : List ℕ
  pub entry : ℕ

unfoldable pub nothing : Loading
nothing = record { last = 0; parents = []; fields = []; methods = []; places = []; entry = 0 }

-- the body bytes of a record by its kind
unfoldable pub body_bytes : ℕ → Option ℕ
body_bytes k =
    pick (eqb k 1) (some 1)
    (pick (eqb k 2) (some 3)
    (pick (eqb k 3) (some 11)
    (only_if (leb 4 k && leb k 6) (some 1))))

unfoldable pub within : ℕ → ℕ → ℕ → Bool
within low high n = leb low n && leb n high

-- classes, fields, then each method with its parameters and then its locals, one entry last:
-- whether a record of kind k may follow one of the kind last
unfoldable pub follows : ℕ → ℕ → Bool
follows last k =
    pick (eqb k 1) (leb last 1)
    (pick (eqb k 2) (within 1 2 last)
    (pick (eqb k 4) (within 3 4 last)
    (pick (eqb k 5) (within 3 5 last) (within 1 5 last))))

-- ---- A class

-- Class 1 is Object, parent 0; every other parent is a smaller row, at least 1
unfoldable pub parent_fits : ℕ → ℕ → Bool
parent_fits n p = pick (eqb n 0) (eqb p 0) (within 1 n p)

unfoldable pub class_record : Loading → ℕ → Answer ℕ Loading
class_record L p = do
  guard (follows L.last 1) 3
  guard (parent_fits (length L.parents) p) 4
  guard (ltb (length L.parents) most_classes) 5
  ok (record { last = 1; parents = L.parents ++ (p ∷ []); fields = L.fields; methods = L.methods; places = L.places; entry = L.entry })

-- ---- A field

unfoldable pub no_field : Field
no_field = record { owner = 0; is_static = false; type = int32 }

-- one of the counts passed: fields, static ones, instance ones of the class with those inherited
unfoldable pub field_room : Loading → ℕ → ℕ → Bool
field_room L o flag =
    ltb (length L.fields) most_fields
    && pick (eqb flag 1)
    (ltb (length (those is_static_field L.fields)) most_statics)
    (ltb (length (layout L.parents L.fields o)) most_instance)

unfoldable pub field_record : Loading → ℕ → ℕ → ℕ → Answer ℕ Loading
field_record L o flag t = do
  guard (follows L.last 2 && leb (last_of no_field L.fields).owner o) 3
  guard (within 1 (length L.parents) o) 4
  guard (leb flag 1) 4
  u ← need (type_at (length L.parents) t) 4
  guard (field_room L o flag) 5
  ok (record {
    last = 2;
    parents = L.parents;
    methods = L.methods;
    places = L.places;
    entry = L.entry;
    fields = L.fields ++ (record { owner = o; is_static = eqb flag 1; type = u } ∷ []);
  })

-- ---- A method

-- the return type that a byte declares: 0 is void
unfoldable pub return_at : ℕ → ℕ → Option (Option Ty)
return_at n b = pick (eqb b 0) (some none) (map_option some (type_at n b))

-- an overridden row is 0 or, for sort 2 only, an earlier virtual method of a proper ancestor
unfoldable pub override_fits : Loading → Method → Bool
override_fits L m =
    eqb m.overridden 0
    || (is_sort m.sort virtual
    && (within 1 (length L.methods) m.overridden
    && (is_sort (method_at L.methods m.overridden).sort virtual
    && (not (eqb (method_at L.methods m.overridden).owner m.owner)
    && descends L.parents m.owner (method_at L.methods m.overridden).owner))))

-- a class has one method at most for each root
unfoldable pub root_free : Loading → Method → Bool
root_free L m = eqb m.overridden 0 || is_none (of_root L.methods m.owner (root L.methods m.overridden))

-- one initialiser at most for a class, none for Object, returning void; constructors return void
unfoldable pub sort_fits : Loading → Method → Bool
sort_fits L m =
    (not (is_sort m.sort initialiser) || (is_none (initialiser_of L.methods m.owner) && (not (eqb m.owner 1) && is_none m.returns)))
    && (not (is_sort m.sort constructor) || is_none m.returns)

-- code length 1 to 1,024 within the code buffer
unfoldable pub code_fits : List ℕ → ℕ → ℕ → Bool
code_fits code offset size = within 1 most_length size && leb (offset + size) (length code)

unfoldable pub method_record : List ℕ → Loading → ℕ → ℕ → ℕ → ℕ → ℕ → ℕ → ℕ → ℕ → Answer ℕ Loading
method_record code L place o s r most v offset size = do
  guard (follows L.last 3) 3
  guard (within 1 (length L.parents) o) 4
  k ← need (sort_at s) 4
  u ← need (return_at (length L.parents) r) 4
  guard (leb most most_stack) 4
  guard (code_fits code offset size) 4
  guard (ltb (length L.methods) most_methods) 5
  let m : Method = record {
    owner = o;
    sort = k;
    returns = u;
    max_stack = most;
    overridden = v;
    offset = offset;
    code = part_of code offset size;
    params = [];
    locals = [];
  }
  guard (override_fits L m && (root_free L m && sort_fits L m)) 6
  ok (record {
    last = 3;
    parents = L.parents;
    fields = L.fields;
    entry = L.entry;
    methods = L.methods ++ (m ∷ []);
    places = L.places ++ (place ∷ []);
  })

-- ---- A parameter or a local, of the method before it

unfoldable pub latest : Loading → Method
latest L = last_of no_method L.methods

unfoldable pub with_param : Ty → Method → Method
with_param t m = record {
  owner = m.owner;
  sort = m.sort;
  returns = m.returns;
  max_stack = m.max_stack;
  overridden = m.overridden;
  offset = m.offset;
  code = m.code;
  params = m.params ++ (t ∷ []);
  locals = m.locals;
}

unfoldable pub with_local : Ty → Method → Method
with_local t m = record {
  owner = m.owner;
  sort = m.sort;
  returns = m.returns;
  max_stack = m.max_stack;
  overridden = m.overridden;
  offset = m.offset;
  code = m.code;
  params = m.params;
  locals = m.locals ++ (t ∷ []);
}

unfoldable pub on_latest : ℕ → (Method → Method) → Loading → Loading
on_latest k f L = record { last = k; parents = L.parents; fields = L.fields; methods = on_last f L.methods; places = L.places; entry = L.entry }

unfoldable pub param_record : Loading → ℕ → Answer ℕ Loading
param_record L t = do
  guard (follows L.last 4) 3
  u ← need (type_at (length L.parents) t) 4
  guard (ltb (length (arguments (latest L))) most_arguments) 5
  guard (not (is_sort (latest L).sort initialiser)) 6
  ok (on_latest 4 (with_param u) L)

unfoldable pub local_record : Loading → ℕ → Answer ℕ Loading
local_record L t = do
  guard (follows L.last 5) 3
  u ← need (type_at (length L.parents) t) 4
  guard (ltb (length (latest L).locals) most_locals) 5
  ok (on_latest 5 (with_local u) L)

-- ---- The entry

unfoldable pub is_class : Ty → Bool
is_class int32 = false
is_class int64 = false
is_class F = false
is_class null = false
is_class (class c) = true

unfoldable pub is_integer : Ty → Bool
is_integer t = eq_ty t int32 || eq_ty t int64

unfoldable pub all : {A : Type 0} → (A → Bool) → List A → Bool
all p [] = true
all p (x ∷ l) = p x && all p l

-- no class as return type
unfoldable pub no_class : Option Ty → Bool
no_class none = true
no_class (some t) = not (is_class t)

-- the entry is static, with int32 or int64 parameters and no class as return type
unfoldable pub entry_fits : Method → Bool
entry_fits m = is_sort m.sort static && (all is_integer m.params && no_class m.returns)

unfoldable pub entry_record : Loading → ℕ → Answer ℕ Loading
entry_record L r = do
  guard (follows L.last 6) 3
  guard (within 1 (length L.methods) r) 4
  guard (entry_fits (method_at L.methods r)) 6
  ok (record { last = 6; parents = L.parents; fields = L.fields; methods = L.methods; places = L.places; entry = r })

-- ---- Record by record

-- the record of kind k at an offset, its body being b
unfoldable pub one_record : List ℕ → Loading → ℕ → ℕ → List ℕ → Answer ℕ Loading
one_record code L place k b =
    pick (eqb k 1) (class_record L (get_or b 0 0))
    (pick (eqb k 2) (field_record L (get_or b 0 0) (get_or b 1 0) (get_or b 2 0))
    (pick (eqb k 3)
    (method_record code L place (get_or b 0 0) (get_or b 1 0) (get_or b 2 0) (get_or b 3 0) (get_or b 4 0) (little 4 (drop 5 b)) (little 2 (drop 9 b)))
    (pick (eqb k 4) (param_record L (get_or b 0 0))
    (pick (eqb k 5) (local_record L (get_or b 0 0)) (entry_record L (get_or b 0 0))))))

-- a record read, and how many bytes it had
pub record Read : Type 0 where
  pub loading : Loading
  pub size : ℕ

-- unknown kind or a missing body byte is 2; l is the tables from the record on
unfoldable pub read_record : List ℕ → Loading → ℕ → List ℕ → Answer ℕ Read
read_record code L place l = do
  n ← need (body_bytes (get_or l 0 0)) 2
  guard (ltb n (length l)) 2
  K ← one_record code L place (get_or l 0 0) (drop 1 l)
  ok (record { loading = K; size = n + 1 })

-- the records from an offset on, n at most
unfoldable pub records : ℕ → List ℕ → List ℕ → ℕ → Loading → Answer Refusal Loading
records zero tables code o L = ok L
records (suc n) tables code o L =
    pick (leb (length tables) o)
    (ok L)
    do R ← blame (λ number. refusal number o) (read_record code L o (drop o tables)); records n tables code (o + R.size) R.loading

-- ---- After the last record

-- override with another return or other parameters
unfoldable pub eq_returns : Option Ty → Option Ty → Bool
eq_returns none none = true
eq_returns none (some u) = false
eq_returns (some t) none = false
eq_returns (some t) (some u) = eq_ty t u

unfoldable pub differs : List Method → ℕ → Method → Bool
differs ms r m =
    not (eqb m.overridden 0)
    && not (eq_returns m.returns (method_at ms m.overridden).returns && eq_tys m.params (method_at ms m.overridden).params)

-- 7: offset of the lowest such method
unfoldable pub agreed : Loading → Option ℕ → Answer Refusal (Unit {0})
agreed L none = ok tt
agreed L (some r) = bad (refusal 7 (get_or L.places (r - 1) 0))

unfoldable pub load : List ℕ → List ℕ → Answer Refusal Module
load tables code = do
  guard (leb (length tables) most_tables && leb (length code) most_code) (refusal 1 0)
  L ← records (length tables) tables code 0 nothing
  guard (eqb L.last 6) (refusal 3 (length tables))
  agreed L (first_row (differs L.methods) 1 L.methods)
  ok (record { parents = L.parents; fields = L.fields; methods = L.methods; entry = L.entry })
