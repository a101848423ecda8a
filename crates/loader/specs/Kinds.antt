-- Kinds of records beside the bytes that declare them.
use Rattle.std.specs.Prelude.{ℕ, ◌≡◌, Option, Some, None, Result, MatchResult}
use Rattle.std.proofs.Math.Option.{none}
use Rattle.model.specs.Loading.{body_bytes}
use Rattle.loader.specs.declared.kind.Kind.{Kind}
use Rattle.loader.specs.declared.kind.Kind.TheVariants.{Class, Field, Method, Parameter, Local, Entry}
use Rattle.loader.specs.declared.refusal.Refusal.{Refusal}
use Rattle.loader.specs.declared.refusal.Refusal.TheVariants.{BadRecord}

abbrev pub kind_byte : Kind → ℕ
kind_byte Class = 1
kind_byte Field = 2
kind_byte Method = 3
kind_byte Parameter = 4
kind_byte Local = 5
kind_byte Entry = 6

-- the kind of the last record, 0 before the first
abbrev pub last_byte : Option Kind → ℕ
last_byte None = 0
last_byte (Some k) = kind_byte k

-- the kind that a byte declares, or that it declares none
abbrev pub Declares : ℕ → Result Kind Refusal → Type 0
Declares b r = MatchResult r (λ k. kind_byte k ≡ b) (λ e. (e ≡ BadRecord) × (body_bytes b ≡ none))
