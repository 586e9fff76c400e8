-- The kind table, and each kind's rule of value.
use Rattle.std.specs.Prelude.{ℕ, ◌+◌, Bool, cond, not, List, [], ◌∷◌, get_or, eqb}
use Prim.Native.String.{String}
use Rattle.std.specs.List.{list_any, list_all}
use Rattle.ways.specs.Ways.{oddly}
use Rattle.tables.specs.Literal.{var, neg, holds}

-- "The kind table has one row for each of the eight kinds: name, output sign, input signs, least and greatest number of
-- inputs." Signs: 0 if all are positive, 1 if all are negative, 2 if there are both.
pub record Kind : Type 0 where
  pub name : String
  pub output_sign : ℕ
  pub input_signs : ℕ
  pub least : ℕ
  pub greatest : ℕ

unfoldable pub kinds : List Kind
kinds =
    record { name = "and"; output_sign = 0; input_signs = 0; least = 2; greatest = 63 } ∷
    record { name = "nor"; output_sign = 0; input_signs = 1; least = 2; greatest = 63 } ∷
    record { name = "cg"; output_sign = 0; input_signs = 2; least = 2; greatest = 63 } ∷
    record { name = "or"; output_sign = 1; input_signs = 0; least = 2; greatest = 63 } ∷
    record { name = "nand"; output_sign = 1; input_signs = 1; least = 2; greatest = 63 } ∷
    record { name = "dg"; output_sign = 1; input_signs = 2; least = 2; greatest = 63 } ∷
    record { name = "xor"; output_sign = 0; input_signs = 0; least = 2; greatest = 4 } ∷
    record { name = "xnor"; output_sign = 1; input_signs = 0; least = 2; greatest = 4 } ∷
    []

unfoldable pub no_kind : Kind
no_kind = record { name = ""; output_sign = 0; input_signs = 0; least = 0; greatest = 0 }

unfoldable pub kind_row : ℕ → Kind
kind_row k = get_or kinds k no_kind

-- The signs of a row of literals, as the table has them.
unfoldable pub signs : List ℕ → ℕ
signs ls = cond (list_all (λ l. not (neg l)) ls) 0 (cond (list_all neg ls) 1 2)

-- "With o = v: `and` if all ai are positive, `nor` if all are negative, else `cg`. With o = −v: .. `or` if all inputs are
-- positive, `nand` if all are negative, else `dg`."
unfoldable pub and_kind : ℕ → List ℕ → ℕ
and_kind o inputs = cond (neg o) 3 0 + signs inputs

-- "Odd: the output is the `xor` of the others; even: `xnor`, its opposite"
unfoldable pub parity_kind : Bool → ℕ
parity_kind odd = cond odd 6 7

-- "Each kind has its own rule of value." The inputs' variables have their values by a; only the inputs of cg and dg carry
-- signs.
unfoldable pub rule : ℕ → (ℕ → Bool) → List ℕ → Bool
rule k a inputs =
    let value : ℕ → Bool = λ l. a (var l) in
    cond (eqb k 0) (list_all value inputs)
    (cond (eqb k 1) (not (list_any value inputs))
    (cond (eqb k 2) (list_all (holds a) inputs)
    (cond (eqb k 3) (list_any value inputs)
    (cond (eqb k 4) (not (list_all value inputs))
    (cond (eqb k 5) (list_any (holds a) inputs)
    (cond (eqb k 6) (oddly value inputs)
    (not (oddly value inputs))))))))
