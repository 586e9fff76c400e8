-- The kind table in code, beside the definition's.
use Rattle.std.specs.Prelude.{◌≡◌, ℕ, List, map, codes}
use Rattle.rules.specs.Kinds as rules
use Rattle.rules.specs.Kinds.{kinds}
use Rattle.gates.specs.declared.kinds.Kind as code

-- A row says what one of the definition's does.
pub record IsRow (row : code.Kind) (kind : rules.Kind) : Type 0 where
  pub name : row.name.now ≡ codes kind.name
  pub output_sign : row.output_sign ≡ kind.output_sign
  pub input_signs : row.input_signs ≡ kind.input_signs
  pub least : row.least ≡ kind.least
  pub greatest : row.greatest ≡ kind.greatest

-- What a row says, and that a table says what the definition's does.
pub record Said : Type 0 where
  pub name : List ℕ
  pub output_sign : ℕ
  pub input_signs : ℕ
  pub least : ℕ
  pub greatest : ℕ

abbrev pub in_code : code.Kind → Said
in_code row = record { name = row.name.now; output_sign = row.output_sign; input_signs = row.input_signs; least = row.least; greatest = row.greatest }

abbrev pub in_rules : rules.Kind → Said
in_rules kind = record { name = codes kind.name; output_sign = kind.output_sign; input_signs = kind.input_signs; least = kind.least; greatest = kind.greatest }

abbrev pub IsTable : List code.Kind → Type 0
IsTable rows = map in_code rows ≡ map in_rules kinds
