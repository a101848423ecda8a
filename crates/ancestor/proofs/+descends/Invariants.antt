use Rattle.ancestor.proofs.+descends.Given as goal

abbrev pub decreases-descends : goal.decreases-descends
decreases-descends l = l.c
