-- The contract of the whole: the parts in their order, and the model's text where the arrays are a state's layout.
use mathlib.Core.Path.{◌≡◌, sym, ap, ◌∙◌}
use mathlib.Core.List.{List}
use Prim.Native.Nat.{ℕ}
use Rattle.state.specs.declared.State.{State}
use Rattle.line.specs.Append.{appended}
use Rattle.line.specs.declared.text.Text.{Text}
use Rattle.line.proofs.Appending.{held, same, same_buffer}
use Rattle.state_text.specs.Texts.{whole_text, Says, Told}
use Rattle.state_text.proofs.Linking.{whole_read}

pub says : (methods fields types : List ℕ) (s : State) (before after : Text) → after ≡ appended before (whole_text methods fields types s) → Says methods fields types s before after
says methods fields types s before after t =
    record {
      same_buffer = same_buffer before after _ t;
      text = t;
      model = λ M code L statics e H p q F T K l.
          same before after _ _ t (ap (whole_text methods fields types) l ∙ rw (sym p, sym q) (whole_read M F code L H e K types statics T));
    }

pub told : (methods fields types : List ℕ) (s : State) (before : List ℕ) (at : ℕ) (x y : Text) (after : List ℕ) (at' : ℕ)
    → x.out.now ≡ before → x.at ≡ at → after ≡ y.out.now → at' ≡ y.at → Says methods fields types s x y → Told methods fields types s before at after at'
told methods fields types s before at x y after at' p q z r t =
    record {
      text = held before at x y _ after at' p q t.text z r;
      model = λ M code L statics e H u v F T K l. held before at x y _ after at' p q (t.model M code L statics e H u v F T K l) z r;
    }
