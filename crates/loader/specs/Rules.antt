-- The rules between records for a method of that owner, sort byte, overridden row and return byte, as tests.
use Rattle.std.specs.Prelude.{ℕ, ◌≤◌, ◌≡◌, Bool, ◌&&◌, length, eqb}
use Rattle.model.specs.Answer.{is_none}
use Rattle.model.specs.Tables.{Method, sort_byte, method_at}
use Rattle.model.specs.Loading.{Loading, override_fits, root_free, sort_fits, entry_fits}

-- what it overrides is an earlier virtual method of a proper ancestor, of a root that its class has no method of
unfoldable pub OverrideRule : Loading → ℕ → ℕ → ℕ → Bool → Type 0
OverrideRule L o s v b = (m : Method) → m.owner ≡ o → sort_byte m.sort ≡ s → m.overridden ≡ v → b ≡ override_fits L m && root_free L m

-- what an initialiser or a constructor may be
unfoldable pub SortRule : Loading → ℕ → ℕ → ℕ → Bool → Type 0
SortRule L o s r b = (m : Method) → m.owner ≡ o → sort_byte m.sort ≡ s → is_none m.returns ≡ eqb r 0 → b ≡ sort_fits L m

-- what the entry at a row may be
unfoldable pub EntryRule : Loading → ℕ → Bool → Type 0
EntryRule L r b = r ≤ length L.methods → b ≡ entry_fits (method_at L.methods r)
