use Rattle.visits.proofs.Arrivals.{by_none, by_some, lost, landed, passed, arrived, falls_not, falls_on}
use Rattle.visits.proofs.Arrivals.{branch_failed, branch_only, branch_last, branch_last_failed, branch_next_failed, branch_both}
use Rattle.std.proofs.lemmas.Result.{err_from_is_err_and}
use Rattle.visits.proofs.visit.visit_branch.Goals as goal

pub returns-in_default : goal.returns-in_default
returns-in_default c = λ all F S m f k w. by_none _ _ _ _ _ (lost _ _ _ (c.lands.ensures.lands all c.requires.size_at_most m) c.in_default.is)

pub returns-in_err-r : goal.returns-in_err-r
returns-in_err-r c =
    λ all F S m f k w.
    let p = err_from_is_err_and c.from_residual.result c.from_residual.ensures.1 in
    let d = landed _ _ _ _ (c.lands.ensures.lands all c.requires.size_at_most m) c.in-Some.is in
    rw (p.1, p.2) (by_some _ _ _ _ _ _ _ d.0 (branch_failed _ _ F _ _ S _ _ _ (c.in_err-r.ensures.agrees S f w)))

pub returns-then-g-eq-BR : goal.returns-then-g-eq-BR
returns-then-g-eq-BR c =
    λ all F S m f k w.
    let d = landed _ _ _ _ (c.lands.ensures.lands all c.requires.size_at_most m) c.in-Some.is in
    let q = passed _ _ _ (c.in_ok-r.ensures.agrees S f w) in
    by_some _ _ _ _ _ _ _ d.0
    (branch_only _ _ F _ _ S _ _ q.shape q.is _ (falls_not _ c.if-g-eq-BR.true) (c.meets.ensures _ F q.shape f k d.1 c.requires.size_at_most q.shows))

pub returns-in_err-meets : goal.returns-in_err-meets
returns-in_err-meets c =
    λ all F S m f k w.
    let p = err_from_is_err_and c.from_residual-in_err-meets.result c.from_residual-in_err-meets.ensures.1 in
    let d = landed _ _ _ _ (c.lands.ensures.lands all c.requires.size_at_most m) c.in-Some.is in
    let q = passed _ _ _ (c.in_ok-r.ensures.agrees S f w) in
    rw (p.1, p.2)
    (by_some _ _ _ _ _ _ _ d.0
    (branch_last_failed _ _ F _ _ S _ _ q.shape q.is (falls_on _ c.if-g-eq-BR.false) _ c.if-size-next.true
    (c.in_err-meets.ensures _ F q.shape f k d.1 c.requires.size_at_most q.shows)))

pub returns-then-size-next : goal.returns-then-size-next
returns-then-size-next c =
    λ all F S m f k w.
    let d = landed _ _ _ _ (c.lands.ensures.lands all c.requires.size_at_most m) c.in-Some.is in
    let q = passed _ _ _ (c.in_ok-r.ensures.agrees S f w) in
    by_some _ _ _ _ _ _ _ d.0
    (branch_last _ _ F _ _ S _ _ q.shape q.is (falls_on _ c.if-g-eq-BR.false) c.if-size-next.true
    (c.in_ok-meets.ensures _ F q.shape f k d.1 c.requires.size_at_most q.shows))

pub returns-in_err-meets-2 : goal.returns-in_err-meets-2
returns-in_err-meets-2 c =
    λ all F S m f k w.
    let p = err_from_is_err_and c.from_residual-in_err-meets-2.result c.from_residual-in_err-meets-2.ensures.1 in
    let d = landed _ _ _ _ (c.lands.ensures.lands all c.requires.size_at_most m) c.in-Some.is in
    let q = passed _ _ _ (c.in_ok-r.ensures.agrees S f w) in
    rw (p.1, p.2)
    (by_some _ _ _ _ _ _ _ d.0
    (branch_next_failed _ _ F _ _ S _ _ q.shape q.is (falls_on _ c.if-g-eq-BR.false) _ c.if-size-next.false
    (c.in_err-meets-2.ensures _ F q.shape f k c.if-size-next.false c.requires.size_at_most q.shows)))

pub returns : goal.returns
returns c =
    λ all F S m f k w.
    let d = landed _ _ _ _ (c.lands.ensures.lands all c.requires.size_at_most m) c.in-Some.is in
    let q = passed _ _ _ (c.in_ok-r.ensures.agrees S f w) in
    let a = arrived _ _ _ _ (c.in_ok-meets-2.ensures _ F q.shape f k c.if-size-next.false c.requires.size_at_most q.shows) in
    by_some _ _ _ _ _ _ _ d.0
    (branch_both _ _ F _ _ S _ _ q.shape q.is (falls_on _ c.if-g-eq-BR.false) _ a.found c.if-size-next.false a.is
    (c.meets-3.ensures _ a.found q.shape f a.kept d.1 c.requires.size_at_most q.shows))
