-- Records in the tables.
use Rattle.std.specs.Prelude.{ℕ, ◌+◌, ◌≤◌, ◌<◌, ◌≡◌, List, length, get_or, drop, Result, MatchResult}
use Rattle.std.proofs.Math.Option.{some}
use Rattle.model.specs.Answer.{or_else}
use Rattle.model.specs.Loading.{little, body_bytes}
use Rattle.loader.specs.declared.kind.Kind.{Kind}
use Rattle.loader.specs.declared.method.Body.{Body}
use Rattle.loader.specs.declared.refusal.Refusal.{Refusal}
use Rattle.loader.specs.declared.refusal.Refusal.TheVariants.{BadRecord}
use Rattle.loader.specs.Kinds.{kind_byte}

-- the kind of the record at an offset, of which every body byte is there; or that its kind is unknown or one of them is missing
abbrev pub Whole : List ℕ → ℕ → Result Kind Refusal → Type 0
Whole tables at r =
    MatchResult r (λ k. (kind_byte k ≡ get_or tables at 0) × (at + or_else (body_bytes (kind_byte k)) 0 < length tables))
    (λ e. (e ≡ BadRecord) × ((n : ℕ) → body_bytes (get_or tables at 0) ≡ some n → length tables ≤ at + n))

-- a method's record at an offset: owner, sort, return type, max stack, overridden row, code offset and code length behind its kind
unfoldable pub body_of : List ℕ → ℕ → Body
body_of tables at = record {
  owner = get_or tables (at + 1) 0;
  sort = get_or tables (at + 2) 0;
  returns = get_or tables (at + 3) 0;
  stack = get_or tables (at + 4) 0;
  overridden = get_or tables (at + 5) 0;
  offset = little 4 (drop (at + 6) tables);
  size = little 2 (drop (at + 10) tables);
}
