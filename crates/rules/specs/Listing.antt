-- The listing: one record a line.
use Rattle.std.specs.Prelude.{ℕ, Bool, cond, ◌&&◌, List, [], ◌∷◌, ◌++◌, map, length, get_or, eqb, codes}
use Prim.Native.String.{String}
use Rattle.std.specs.List.{filter, flat_map, range_with_len}
use Rattle.tables.specs.Numbers.{number_of, place_of}
use Rattle.tables.specs.Literal.{var}
use Rattle.tables.specs.declared.numbers.Refusal.{Refusal}
use Rattle.texts.specs.Decimal.{decimal, signed}
use Rattle.rules.specs.Pairs.{stands, fixed, linked}
use Rattle.rules.specs.Kinds.{kind_row}
use Rattle.rules.specs.Patterns.{Gate}
use Rattle.rules.specs.Circuit.{residue, free, levels}

-- "One record a line, fields parted by tabs (shown as spaces here), each line ended by LF"
unfoldable pub line : String → List (List ℕ) → List ℕ
line tag fields = codes tag ++ (flat_map (λ f. codes "\t" ++ f) fields ++ codes "\n")

-- "B: variables, rounds, fixed, linked, gates, free, residue clauses."
unfoldable pub line_b : ℕ → ℕ → List ℕ → List (List ℕ) → List Gate → List ℕ
line_b n r st cs gs =
    let count : (ℕ → Bool) → List ℕ = λ test. decimal (length (filter test (range_with_len 1 n))) in
    line "B" (decimal n ∷ decimal r ∷ count (fixed st) ∷ count (linked st) ∷ decimal (length gs) ∷ count (free st gs) ∷ decimal (length (residue gs cs)) ∷ [])

-- "F: variable, 0 or 1; rising. L: variable, root literal; rising."
unfoldable pub line_f : List ℕ → ℕ → List ℕ
line_f st v = line "F" (decimal v ∷ decimal (stands st v) ∷ [])

unfoldable pub line_l : List ℕ → ℕ → List ℕ
line_l st v = line "L" (decimal v ∷ signed (stands st v) ∷ [])

-- "G: level, kind, output variable, inputs by rising variable; .. Only cg and dg inputs carry signs."
unfoldable pub input_field : ℕ → ℕ → List ℕ
input_field k x = cond (eqb (kind_row k).input_signs 2) (signed x) (decimal (var x))

unfoldable pub line_g : ℕ → Gate → List ℕ
line_g level g = line "G" (decimal level ∷ codes (kind_row g.kind).name ∷ decimal g.output ∷ map (input_field g.kind) g.inputs)

-- "by level, then output": level after level, and on each the gates by rising output.
unfoldable pub gates_at : ℕ → List Gate → ℕ → ℕ → List Gate
gates_at n gs level v = filter (λ g. eqb g.output v && eqb (get_or (levels n gs) v 0) level) gs

unfoldable pub lines_g : ℕ → List Gate → List ℕ
lines_g n gs = flat_map (λ level. flat_map (λ v. flat_map (line_g level) (gates_at n gs level v)) (range_with_len 1 n)) (range_with_len 1 (length gs))

-- "V: free variable; rising. R: a residue clause's literals."
unfoldable pub line_v : ℕ → List ℕ
line_v v = line "V" (decimal v ∷ [])

unfoldable pub line_r : List ℕ → List ℕ
line_r c = line "R" (map signed c)

-- All of it. r: the rounds run; st: what each variable stands for; cs: the settled table; gs: the gates taken.
unfoldable pub listing : ℕ → ℕ → List ℕ → List (List ℕ) → List Gate → List ℕ
listing n r st cs gs =
    line_b n r st cs gs
    ++ flat_map (line_f st) (filter (fixed st) (range_with_len 1 n))
    ++ flat_map (line_l st) (filter (linked st) (range_with_len 1 n))
    ++ lines_g n gs
    ++ flat_map line_v (filter (free st gs) (range_with_len 1 n))
    ++ flat_map line_r (residue gs cs)

-- "or one such line with `X`, number, place"
unfoldable pub line_x : Refusal → List ℕ
line_x why = line "X" (decimal (number_of why) ∷ decimal (place_of why) ∷ [])
