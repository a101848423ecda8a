-- `loader::records::one_record` meets its contract.
use native.Mathlib.Omega.{arith}
use Rattle.std.proofs.Common.{ap}
use Rattle.loader.specs.Kinds.{kind_byte}
use Rattle.loader.proofs.Bodies.{same_record, one_byte, three_bytes, eleven_bytes, one_class, one_field, one_method, one_param, one_local, one_entry}
use Rattle.loader.proofs.records.one_record.Goals as goal

pub bounds-tables-at : goal.bounds-tables-at
bounds-tables-at c = omega (arith, one_byte c.args.kind, c.requires.at_inside)

pub bounds-tables-at-in-Field : goal.bounds-tables-at-in-Field
bounds-tables-at-in-Field c = omega (arith, three_bytes _ c.in-Field.is, c.requires.at_inside)

pub bounds-tables-at-in-Field-2 : goal.bounds-tables-at-in-Field-2
bounds-tables-at-in-Field-2 c = omega (arith, three_bytes _ c.in-Field.is, c.requires.at_inside)

pub read_body-requires : goal.read_body-requires
read_body-requires c = omega (arith, eleven_bytes _ c.in-Method.is, c.requires.at_inside)

pub returns-in-Class : goal.returns-in-Class
returns-in-Class c = λ buffer L ec S. same_record _ _ (one_class buffer L c.args.tables.now c.args.at _ (ap kind_byte c.in-Class.is)) _ _ (c.class_record.ensures buffer L S)

pub returns-in-Field : goal.returns-in-Field
returns-in-Field c = λ buffer L ec S. same_record _ _ (one_field buffer L c.args.tables.now c.args.at _ (ap kind_byte c.in-Field.is)) _ _ (c.field_record.ensures buffer L S)

pub returns-in-Parameter : goal.returns-in-Parameter
returns-in-Parameter c = λ buffer L ec S. same_record _ _ (one_param buffer L c.args.tables.now c.args.at _ (ap kind_byte c.in-Parameter.is)) _ _ (c.variable_record.ensures buffer L S)

pub returns-in-Local : goal.returns-in-Local
returns-in-Local c = λ buffer L ec S. same_record _ _ (one_local buffer L c.args.tables.now c.args.at _ (ap kind_byte c.in-Local.is)) _ _ (c.variable_record-in-Local.ensures buffer L S)

pub returns-in-Entry : goal.returns-in-Entry
returns-in-Entry c = λ buffer L ec S. same_record _ _ (one_entry buffer L c.args.tables.now c.args.at _ (ap kind_byte c.in-Entry.is)) _ _ (c.entry_record.ensures buffer L S)

pub returns-in-Method : goal.returns-in-Method
returns-in-Method c = λ buffer L ec S. same_record _ _ (one_method buffer L c.args.tables.now c.args.at _ (ap kind_byte c.in-Method.is) c.read_body.result c.read_body.ensures) _ _ (c.method_record.ensures buffer L ec S)
