-- `announced` meets its contract: the tests in the model's order, each with its law.
use Rattle.std.specs.Prelude.{Err}
use Rattle.line.specs.declared.input.Refused.TheVariants.{Cut, TooLong}
use Rattle.line.proofs.Inputs.{said, under_two, tables_long, cut_short, code_long, whole}
use Rattle.line.proofs.input.announced.Goals as goal

pub returns-then-input-lt-LENGTH : goal.returns-then-input-lt-LENGTH
returns-then-input-lt-LENGTH c = let both = said c.args.input.now (Err Cut) (under_two c.args.input.now c.if-input-lt-LENGTH.true) in record { input_value = both.0; value = both.1 }

pub returns-then-tables-gt-MOST_TABLES : goal.returns-then-tables-gt-MOST_TABLES
returns-then-tables-gt-MOST_TABLES c = let l = c.args.input.now in
    let both = said l (Err TooLong) (tables_long l c.little2-tables.result c.little2-tables.ensures.value c.if-input-lt-LENGTH.false c.if-tables-gt-MOST_TABLES.true) in record { input_value = both.0; value = both.1 }

pub returns-then-input-start : goal.returns-then-input-start
returns-then-input-start c = let l = c.args.input.now in
    let both = said l (Err Cut) (cut_short l c.little2-tables.result c.little2-tables.ensures.value c.if-input-lt-LENGTH.false c.if-tables-gt-MOST_TABLES.false c.if-input-start.true) in record { input_value = both.0; value = both.1 }

pub returns-then-input-start-gt-MOST_CODE : goal.returns-then-input-start-gt-MOST_CODE
returns-then-input-start-gt-MOST_CODE c = let l = c.args.input.now in
    let both = said l (Err TooLong) (code_long l c.little2-tables.result c.little2-tables.ensures.value c.if-input-lt-LENGTH.false c.if-tables-gt-MOST_TABLES.false c.if-input-start.false c.if-input-start-gt-MOST_CODE.true) in record { input_value = both.0; value = both.1 }

pub returns : goal.returns
returns c = let l = c.args.input.now in
    let both = said l _ (whole l c.little2-tables.result c.little2-tables.ensures.value c.if-input-lt-LENGTH.false c.if-tables-gt-MOST_TABLES.false c.if-input-start.false c.if-input-start-gt-MOST_CODE.false) in record { input_value = both.0; value = both.1 }
