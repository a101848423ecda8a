use Rattle.across_frames.proofs.Handed.{ret_void, ret_more, ret_few, ret_many, ret_one, ret_unfit}
use Rattle.across_frames.proofs.returns.returnable.Goals as goal

pub returns-then-sp-floor : goal.returns-then-sp-floor
returns-then-sp-floor c = λ w m t q. ret_void m _ c.args.registers.stay _ q t c.if-byte-eq0.true c.if-sp-floor.true

pub returns-then-byte-eq0 : goal.returns-then-byte-eq0
returns-then-byte-eq0 c = λ w m t q. ret_more m _ c.args.registers.stay _ q t c.if-byte-eq0.true c.requires.topped.low c.if-sp-floor.false

pub returns-then-sp-floor-2 : goal.returns-then-sp-floor-2
returns-then-sp-floor-2 c = λ w m t q. ret_few m _ c.args.registers.stay _ q t c.if-byte-eq0.false c.if-sp-floor-2.true

pub returns-then-sp-floor-3 : goal.returns-then-sp-floor-3
returns-then-sp-floor-3 c = λ w m t q. ret_many m _ c.args.registers.stay _ q t c.if-byte-eq0.false c.requires.topped.low c.if-sp-floor-2.false c.if-sp-floor-3.true

pub returns-then-fits : goal.returns-then-fits
returns-then-fits c = λ w m t q. ret_one m _ c.args.registers.stay _ q t c.if-byte-eq0.false c.if-sp-floor-3.false c.fits.ensures c.if-fits.true

pub returns : goal.returns
returns c = λ w m t q. ret_unfit m _ c.args.registers.stay _ q t c.if-byte-eq0.false c.if-sp-floor-3.false c.fits.ensures c.if-fits.false
