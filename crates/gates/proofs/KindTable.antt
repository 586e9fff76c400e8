-- The two kind tables say the same: one equation of the whole tables, which computes, and each row follows.
use Rattle.std.proofs.Common.{◌≡◌, ℕ, ◌<◌, List, length, get_or, sym, ap, ◌∙◌}
use Rattle.std.proofs.lemmas.List.{get_or-map, length-map}
use Rattle.rules.specs.Kinds as rules
use Rattle.rules.specs.Kinds.{kinds, no_kind, kind_row}
use Rattle.gates.specs.declared.kinds.Kind as code
use Rattle.gates.specs.KindRows.{IsRow, Said, in_code, in_rules, IsTable}

agree : (row : code.Kind) (kind : rules.Kind) → in_code row ≡ in_rules kind → IsRow row kind
agree row kind e = record {
  name = ap (λ (s : Said). s.name) e;
  output_sign = ap (λ (s : Said). s.output_sign) e;
  input_signs = ap (λ (s : Said). s.input_signs) e;
  least = ap (λ (s : Said). s.least) e;
  greatest = ap (λ (s : Said). s.greatest) e;
}

pub table_length : (rows : List code.Kind) → IsTable rows → length rows ≡ 8
unfolding kinds
table_length rows e = simp length-map at (ap length e)

pub row_is : (rows : List code.Kind) (k : ℕ) (d : code.Kind) → k < 8 → IsTable rows → IsRow (get_or rows k d) (kind_row k)
unfolding kind_row kinds
row_is rows k d few e =
    agree (get_or rows k d) (get_or kinds k no_kind)
    (sym (get_or-map in_code rows k d (in_rules no_kind) (rw (table_length rows e) few)) ∙ ap (λ r. get_or r k (in_rules no_kind)) e ∙ get_or-map in_rules kinds k no_kind (in_rules no_kind) few)
