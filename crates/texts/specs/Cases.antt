-- Texts and tables, and what the rules say of each. One statement runs the definitions over all of them.
use Rattle.std.specs.Prelude.{ℕ, ◌≡◌, refl, Bool, true, false, ◌&&◌, List, [], ◌∷◌, ◌++◌, map, pos, length, replicate, eqb, Result, Ok, Err, codes}
use Rattle.std.specs.List.{list_all}
use Prim.Native.String.{String}
use Rattle.ways.specs.Ways.{same}
use Rattle.tables.specs.Numbers.{number_of, place_of, refuse, first_refusal}
use Rattle.tables.specs.Literal.{literal, entry}
use Rattle.tables.specs.Clause.{clauses_from, clauses}
use Rattle.tables.specs.Check.{check_from, checked}
use Rattle.tables.specs.declared.numbers.Refusal.{Refusal}
use Rattle.tables.specs.declared.numbers.Refusal.TheVariants.{Unreadable, TooLarge, Undeclared, ShortBuffer}
use Rattle.texts.specs.Bytes.{blank, solid, feed}
use Rattle.texts.specs.Tokens.{tokens_from}
use Rattle.texts.specs.Numbers.{digits, natural, plain, minus, number}
use Rattle.texts.specs.Header.{remarks, no_more, size_c, size_v, word_cnf, word_p, header_at, header}
use Rattle.texts.specs.Body.{judged_number, body_from, entry_of}
use Rattle.texts.specs.Buffer.{front, leaves}
use Rattle.texts.specs.Reading.{behind, judged, verdict, roomed, reading, row_after}
use Rattle.texts.specs.Decimal.{digits_of, decimal, signed}
use Rattle.texts.specs.Writing.{first_line, parting, clause_lines, written, writing, buffer_after}
use Rattle.texts.specs.declared.reading.Reading.{Reading}

-- A text read into a row of some entries: the answer, and the entries, as literals' numbers, that stand in front afterwards.
pub record Read : Type 0 where
  pub text : List ℕ
  pub room : ℕ
  pub answer : Result Reading Refusal
  pub entries : List ℕ

-- A table written into a buffer of some bytes: the answer, and the bytes that stand in front afterwards.
pub record Written : Type 0 where
  pub vars : ℕ
  pub table : List ℕ
  pub room : ℕ
  pub answer : Result ℕ Refusal
  pub bytes : List ℕ

-- Two answers are alike: the same refusal, or values that are the same by a test.
unfoldable pub alike : {T : Type 0} → (T → T → Bool) → Result T Refusal → Result T Refusal → Bool
alike equal (Ok x) (Ok y) = equal x y
alike equal (Ok x) (Err why) = false
alike equal (Err why) (Ok y) = false
alike equal (Err why) (Err cause) = eqb (number_of why) (number_of cause) && eqb (place_of why) (place_of cause)

unfoldable pub equal_readings : Reading → Reading → Bool
equal_readings r s = eqb r.variables s.variables && eqb r.entries s.entries

-- The row is lent with 9 in every place.
unfoldable pub right_read : Read → Bool
right_read c =
    alike equal_readings (reading c.text c.room) c.answer
    && same (map literal (row_after c.text (replicate c.room (pos 9)))) (front c.entries (replicate c.room 18))

unfoldable pub right_written : Written → Bool
right_written c =
    alike eqb (writing c.vars (map entry c.table) c.room) c.answer
    && same (buffer_after c.vars (map entry c.table) (replicate c.room 9)) (front c.bytes (replicate c.room 9))

abbrev accepts : String → ℕ → List ℕ → Read
accepts text n entries = record { text = codes text; room = 8; answer = Ok (record { variables = n; entries = length entries }); entries = entries }

abbrev refuses : String → Refusal → Read
refuses text why = record { text = codes text; room = 8; answer = Err why; entries = [] }

abbrev half : List ℕ
half = codes "1 1 1 1 1 1 1 1 1 1 1 1 1 1 1 1 1 1 1 1 1 1 1 1 1 1 1 1 1 1 1 1 "

-- 64 literals.
abbrev ones : List ℕ
ones = half ++ half

unfoldable pub reads : List Read
reads =
    -- the rules, "Evenings on both sides of the line"
    refuses "p cnf 1 1\n01 0" (Unreadable 10)
    ∷ refuses "p cnf 1 1\n2 0" (Undeclared 10)
    ∷ refuses "p cnf 1 1\n1" (Undeclared 11)
    ∷ refuses "p cnf 1 1\n1 0 1 0" (Undeclared 14)
    ∷ refuses "p cnf 1 1\nc\n" (Unreadable 10)
    ∷ accepts "p cnf 1024 1\n-1024 0\n" 1024 (2049 ∷ 0 ∷ [])
    ∷ refuses "p cnf 1025 0\n" (TooLarge 6)
    ∷ refuses "p cnf 1 4097\n" (TooLarge 8)
    -- the header line: it may end with the text; its first token is judged as a token; the earliest place decides
    ∷ accepts "p cnf 0 0" 0 []
    ∷ refuses "pcnf 0 0\n" (Unreadable 0)
    ∷ refuses "p cnf 1025\n" (TooLarge 6)
    ∷ refuses "p cnf 1\r\n" (Unreadable 8)
    ∷ refuses "p\n" (Unreadable 1)
    ∷ refuses "p cnf\n" (Unreadable 5)
    ∷ refuses "p cnf 1 1 x\n" (Unreadable 10)
    ∷ refuses "p cnf 01 1\n" (Unreadable 6)
    ∷ refuses "p cnf -1 1\n" (Unreadable 6)
    -- lines before the header
    ∷ accepts "c road 4\np cnf 6 2\n6 0\n1 -2\n-3 0\n" 6 (12 ∷ 0 ∷ 2 ∷ 5 ∷ 7 ∷ 0 ∷ [])
    ∷ refuses "" (Unreadable 0)
    ∷ refuses "c" (Unreadable 1)
    ∷ refuses "c\n" (Unreadable 2)
    ∷ refuses "\np cnf 0 0\n" (Unreadable 0)
    ∷ refuses " p cnf 0 0\n" (Unreadable 0)
    -- nine digits are a number, ten are none
    ∷ refuses "p cnf 1000000000 0\n" (Unreadable 6)
    ∷ refuses "p cnf 999999999 0\n" (TooLarge 6)
    ∷ refuses "p cnf 1 1\n-1000000000 0\n" (Unreadable 10)
    ∷ refuses "p cnf 1 1\n-999999999 0\n" (Undeclared 10)
    ∷ refuses "p cnf 1 1\n-0 0\n" (Unreadable 10)
    ∷ refuses "p cnf 1 1\n- 0\n" (Unreadable 10)
    ∷ refuses "p cnf 1 1\n+1 0\n" (Unreadable 10)
    -- too many and too few zeros, and one place with several numbers
    ∷ refuses "p cnf 1 0\n1 0\n" (Undeclared 10)
    ∷ refuses "p cnf 1 1\n1 0 x" (Unreadable 14)
    ∷ refuses "p cnf 1 2\n1 0\n" (Undeclared 14)
    ∷ accepts "p cnf 1 2\n0 0" 1 (0 ∷ 0 ∷ [])
    ∷ record { text = codes "p cnf 1 1\n" ++ (ones ++ codes "2 0\n"); room = 80; answer = Err (TooLarge 138); entries = [] }
    ∷ record { text = codes "p cnf 1 1\n" ++ (ones ++ codes "0\n"); room = 80; answer = Ok (record { variables = 1; entries = 65 }); entries = replicate 64 2 ++ (0 ∷ []) }
    -- only four blanks, and only LF ends a line
    ∷ refuses "p cnf 1 1\n1\u{b}0\n" (Unreadable 10)
    ∷ refuses "c x\rp cnf 0 0\n" (Unreadable 14)
    ∷ refuses "\r\np cnf 0 0\r\n" (Unreadable 0)
    ∷ accepts "p\tcnf\r 1  1 \r\n\t1\r\n 0" 1 (2 ∷ 0 ∷ [])
    -- the room of a reading is counted in entries
    ∷ record { text = codes "p cnf 1 1\n1 0\n"; room = 1; answer = Err (ShortBuffer 2); entries = [] }
    ∷ record { text = codes "p cnf 1 1\n1 0\n"; room = 2; answer = Ok (record { variables = 1; entries = 2 }); entries = 2 ∷ 0 ∷ [] }
    ∷ []

unfoldable pub writes : List Written
writes =
    record { vars = 0; table = []; room = 12; answer = Ok 10; bytes = codes "p cnf 0 0\n" }
    ∷ record { vars = 1024; table = 2049 ∷ 20 ∷ 0 ∷ 0 ∷ []; room = 30; answer = Ok 26; bytes = codes "p cnf 1024 2\n-1024 10 0\n0\n" }
    ∷ record { vars = 1; table = 2 ∷ 0 ∷ []; room = 13; answer = Err (ShortBuffer 14); bytes = [] }
    ∷ record { vars = 1; table = 2 ∷ 0 ∷ []; room = 14; answer = Ok 14; bytes = codes "p cnf 1 1\n1 0\n" }
    ∷ record { vars = 1; table = 4 ∷ 0 ∷ []; room = 14; answer = Err (Undeclared 0); bytes = [] }
    ∷ record { vars = 1; table = 2 ∷ []; room = 14; answer = Err (Undeclared 1); bytes = [] }
    ∷ []

pub all_right : (list_all right_read reads && list_all right_written writes) ≡ true
unfolding refuse first_refusal alike equal_readings right_read right_written reads writes clauses_from clauses check_from checked blank solid feed tokens_from digits natural plain minus number remarks no_more size_c size_v word_cnf word_p header_at header judged_number body_from entry_of front leaves behind judged verdict roomed reading row_after digits_of decimal signed first_line parting clause_lines written writing buffer_after
all_right = refl
