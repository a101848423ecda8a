use mathlib.Core.Path.{sym, ◌∙◌}
use Rattle.prepare.proofs.Asking.{upto_same, upto_more}
use Rattle.prepare.proofs.sets.asked.Goals as goal

pub returns-then-descends : goal.returns-then-descends
returns-then-descends c = λ ps P U. upto_more ps _ _ _ U _ c.numbers_of.ensures c.requires.0 c.requires.1
    (sym (c.descends.ensures ps P) ∙ c.if-descends.true)

pub returns : goal.returns
returns c = λ ps P U. upto_same ps _ _ _ U c.requires.0 c.requires.1 (sym (c.descends.ensures ps P) ∙ c.if-descends.false)
