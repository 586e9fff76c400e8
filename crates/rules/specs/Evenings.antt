-- The evenings: the rules' starred cases, the example of road 4, the night with the pin book, and one case for each slip "that a yard
-- would not notice" and that none of those shows. One list, and one statement that runs the definitions over it: what the
-- builder prints, byte for byte.
use Rattle.std.specs.Prelude.{ℕ, ◌≡◌, refl, Bool, true, List, [], ◌∷◌, ◌++◌, ℤ, pos, negsuc, Result, Ok, Err, codes}
use Rattle.std.specs.List.{list_all}
use Prim.Native.String.{String}
use Rattle.ways.specs.Ways.{same}
use Rattle.tables.specs.Sizes.{most_bytes, work_room}
use Rattle.tables.specs.Numbers.{refuse, first_refusal}
use Rattle.tables.specs.Clause.{clauses_from, clauses}
use Rattle.tables.specs.Check.{check_from, checked}
use Rattle.texts.specs.Buffer.{front, leaves}
use Rattle.texts.specs.Bytes.{blank, solid, feed}
use Rattle.texts.specs.Tokens.{tokens_from}
use Rattle.texts.specs.Numbers.{digits, natural, plain, minus, number}
use Rattle.texts.specs.Header.{remarks, no_more, size_c, size_v, word_cnf, word_p, header_at, header}
use Rattle.texts.specs.Body.{judged_number, body_from, entry_of}
use Rattle.texts.specs.Reading.{behind, judged, verdict, roomed, reading, row_after}
use Rattle.texts.specs.Decimal.{digits_of, decimal, signed}
use Rattle.rules.specs.Forced.{forces, force_at, force_in, pass, forced, clash, empty, contradicts}
use Rattle.rules.specs.Clean.{insert, tidy_step, tidy, add, clean_step, clean}
use Rattle.rules.specs.Pairs.{pairs, stands, replace, alone, starting, give_way, meet, join, leaders, torn, fixed, root, linked}
use Rattle.rules.specs.Rounds.{paired, cleaned, round, after, rounds, outcome, pinned}
use Rattle.rules.specs.Kinds.{kinds, no_kind, kind_row, signs, and_kind, parity_kind, rule}
use Rattle.rules.specs.Patterns.{others, side, and_inputs, and_form, signings, odd, group, parity, first_of, anchors, found}
use Rattle.rules.specs.Taking.{candidates, touched, depend_step, dependents, is_output, allowed, place, take_first, take_at, taken_by, taken}
use Rattle.rules.specs.Circuit.{in_pattern, residue, free, highest, level_step, levels}
use Rattle.rules.specs.Fill.{bit, fill_step, fill_gates, filled}
use Rattle.rules.specs.Ask.{ask_root, asked}
use Rattle.rules.specs.Listing.{line, line_b, line_f, line_l, input_field, line_g, gates_at, lines_g, line_v, line_r, listing, line_x}
use Rattle.rules.specs.Pins.{in_force, empty_book, out_of_range, with_pin, without_last, book_long, take_back, book_after}
use Rattle.rules.specs.Calls.{work_short, held_bad, outcome_of, contradiction, rounds_in, stands_in, gates_in, listed, wiped, build_verdict, build, build_listing, bad_values, bad_value, fill_verdict, fill_values, ask_verdict, ask, pin_verdict, pin}
use Rattle.rules.specs.Program.{printed, program_on, program}
use Rattle.tables.specs.declared.numbers.Refusal.{Refusal}
use Rattle.rules.specs.declared.book.Book.{Book}

-- Entries, as the rules write them.
abbrev +0 : ℤ
+0 = pos 0

abbrev +1 : ℤ
+1 = pos 1

abbrev +2 : ℤ
+2 = pos 2

abbrev +3 : ℤ
+3 = pos 3

abbrev +4 : ℤ
+4 = pos 4

abbrev +5 : ℤ
+5 = pos 5

abbrev +6 : ℤ
+6 = pos 6

abbrev -1 : ℤ
-1 = negsuc 0

abbrev -2 : ℤ
-2 = negsuc 1

abbrev -3 : ℤ
-3 = negsuc 2

abbrev -4 : ℤ
-4 = negsuc 3

abbrev -5 : ℤ
-5 = negsuc 4

abbrev -6 : ℤ
-6 = negsuc 5

-- What the desk does.
pub data Move : Type 0 where
  put : ℤ → Move
  back : Move

-- A lent table with what the desk does over it, or a clause text; and what is printed.
pub data Evening : Type 0 where
  lent : ℕ → List ℤ → List Move → String → Evening
  text : String → String → Evening

pub evenings : List Evening
evenings =
    -- n = 0, no clause: accepted, 1 round, all else 0.
    lent 0 ([]) [] "B\t0\t1\t0\t0\t0\t0\t0\n" ∷
    -- n = 1, an empty clause: 4, round 1.
    lent 1 (+0 ∷ []) [] "X\t4\t1\n" ∷
    -- (1)(−1): 4, round 1.
    lent 1 (+1 ∷ +0 ∷ -1 ∷ +0 ∷ []) [] "X\t4\t1\n" ∷
    -- n = 1, (1 −1): variable 1 free, no residue.
    lent 1 (+1 ∷ -1 ∷ +0 ∷ []) [] "B\t1\t1\t0\t0\t0\t1\t0\nV\t1\n" ∷
    -- (1)(−1 2): both fixed to 1.
    lent 2 (+1 ∷ +0 ∷ -1 ∷ +2 ∷ +0 ∷ []) [] "B\t2\t1\t2\t0\t0\t0\t0\nF\t1\t1\nF\t2\t1\n" ∷
    -- (−1 2)(1 −2): 2 linked to 1, 2 rounds.
    lent 2 (-1 ∷ +2 ∷ +0 ∷ +1 ∷ -2 ∷ +0 ∷ []) [] "B\t2\t2\t0\t1\t0\t1\t0\nL\t2\t1\nV\t1\n" ∷
    -- (1 2)(−1 −2): 2 linked to −1.
    lent 2 (+1 ∷ +2 ∷ +0 ∷ -1 ∷ -2 ∷ +0 ∷ []) [] "B\t2\t2\t0\t1\t0\t1\t0\nL\t2\t-1\nV\t1\n" ∷
    -- Those four clauses together: 4, round 1.
    lent 2 (-1 ∷ +2 ∷ +0 ∷ +1 ∷ -2 ∷ +0 ∷ +1 ∷ +2 ∷ +0 ∷ -1 ∷ -2 ∷ +0 ∷ []) [] "X\t4\t1\n" ∷
    -- (−1 2)(1 −2)(1 3)(−2 −3): 2 linked to 1, 3 to −1, 3 rounds.
    lent 3 (-1 ∷ +2 ∷ +0 ∷ +1 ∷ -2 ∷ +0 ∷ +1 ∷ +3 ∷ +0 ∷ -2 ∷ -3 ∷ +0 ∷ []) [] "B\t3\t3\t0\t2\t0\t1\t0\nL\t2\t1\nL\t3\t-1\nV\t1\n" ∷
    -- (1 2 3)(−1 −2)(−1 −3)(−2 −3): 1 = nor(2, 3), residue (−2 −3).
    lent 3 (+1 ∷ +2 ∷ +3 ∷ +0 ∷ -1 ∷ -2 ∷ +0 ∷ -1 ∷ -3 ∷ +0 ∷ -2 ∷ -3 ∷ +0 ∷ []) [] "B\t3\t1\t0\t0\t1\t2\t1\nG\t1\tnor\t1\t2\t3\nV\t2\nV\t3\nR\t-2\t-3\n" ∷
    -- (−1 2 3)(1 −2 3)(1 2 −3)(−1 −2 −3): 1 = xor(2, 3).
    lent 3 (-1 ∷ +2 ∷ +3 ∷ +0 ∷ +1 ∷ -2 ∷ +3 ∷ +0 ∷ +1 ∷ +2 ∷ -3 ∷ +0 ∷ -1 ∷ -2 ∷ -3 ∷ +0 ∷ []) [] "B\t3\t1\t0\t0\t1\t2\t0\nG\t1\txor\t1\t2\t3\nV\t2\nV\t3\n" ∷
    -- Without the last clause: no gate, three residue clauses.
    lent 3 (-1 ∷ +2 ∷ +3 ∷ +0 ∷ +1 ∷ -2 ∷ +3 ∷ +0 ∷ +1 ∷ +2 ∷ -3 ∷ +0 ∷ []) [] "B\t3\t1\t0\t0\t0\t3\t3\nV\t1\nV\t2\nV\t3\nR\t-1\t2\t3\nR\t1\t-2\t3\nR\t1\t2\t-3\n" ∷
    -- The nor case, pin 2: 1 and 3 fixed to 0. Pin 3: 4. Take-back: the nor case again.
    lent 3 (+1 ∷ +2 ∷ +3 ∷ +0 ∷ -1 ∷ -2 ∷ +0 ∷ -1 ∷ -3 ∷ +0 ∷ -2 ∷ -3 ∷ +0 ∷ []) (put +2 ∷ put +3 ∷ back ∷ []) "B\t3\t1\t0\t0\t1\t2\t1\nG\t1\tnor\t1\t2\t3\nV\t2\nV\t3\nR\t-2\t-3\nB\t3\t1\t3\t0\t0\t0\t0\nF\t1\t0\nF\t2\t1\nF\t3\t0\nX\t4\t1\nB\t3\t1\t0\t0\t1\t2\t1\nG\t1\tnor\t1\t2\t3\nV\t2\nV\t3\nR\t-2\t-3\n" ∷
    -- A link whose root is fixed in a later round is no link.
    lent 2 (-1 ∷ +2 ∷ +0 ∷ +1 ∷ -2 ∷ +0 ∷ +1 ∷ +2 ∷ +0 ∷ []) [] "B\t2\t2\t2\t0\t0\t0\t0\nF\t1\t1\nF\t2\t1\n" ∷
    -- A link whose root is linked in a later round points to the last root.
    lent 3 (-2 ∷ +3 ∷ +0 ∷ +2 ∷ -3 ∷ +0 ∷ +1 ∷ -2 ∷ +0 ∷ -1 ∷ +3 ∷ +0 ∷ []) [] "B\t3\t3\t0\t2\t0\t1\t0\nL\t2\t1\nL\t3\t1\nV\t1\n" ∷
    -- A gate's input may become an output after the gate was taken: 1 ends at level 2.
    lent 5 (+1 ∷ -2 ∷ -3 ∷ +0 ∷ -1 ∷ +2 ∷ +0 ∷ -1 ∷ +3 ∷ +0 ∷ +2 ∷ -4 ∷ -5 ∷ +0 ∷ -2 ∷ +4 ∷ +0 ∷ -2 ∷ +5 ∷ +0 ∷ []) [] "B\t5\t1\t0\t0\t2\t3\t0\nG\t1\tand\t2\t4\t5\nG\t2\tand\t1\t2\t3\nV\t3\nV\t4\nV\t5\n" ∷
    -- A ring over three gates: 3 = and(1, 6) is given up, and its clauses stay.
    lent 6 (+1 ∷ -2 ∷ -4 ∷ +0 ∷ -1 ∷ +2 ∷ +0 ∷ -1 ∷ +4 ∷ +0 ∷ +2 ∷ -3 ∷ -5 ∷ +0 ∷ -2 ∷ +3 ∷ +0 ∷ -2 ∷ +5 ∷ +0 ∷ +3 ∷ -1 ∷ -6 ∷ +0 ∷ -3 ∷ +1 ∷ +0 ∷ -3 ∷ +6 ∷ +0 ∷ []) [] "B\t6\t1\t0\t0\t2\t4\t3\nG\t1\tand\t2\t3\t5\nG\t2\tand\t1\t2\t4\nV\t3\nV\t4\nV\t5\nV\t6\nR\t-1\t3\t-6\nR\t1\t-3\nR\t-3\t6\n" ∷
    -- The example of road 4.
    text "c road 4\np cnf 6 8\n6 0\n1 -2 -3 0\n-1 2 0\n-1 3 0\n1 -2 4 0\n2 -4 0\n-4 5 0\n4 -5 0\n" "B\t6\t2\t1\t1\t1\t3\t2\nF\t6\t1\nL\t5\t4\nG\t1\tand\t1\t2\t3\nV\t2\nV\t3\nV\t4\nR\t1\t-2\t4\nR\t2\t-4\n" ∷
    []

-- The build after the moves so far; each move is followed by its line with X, or by the build with the new book.
pub shown : ℕ → List ℤ → Book → List ℕ
shown n t b = printed (listed n (outcome_of n t b)) (build n t b work_room most_bytes)

pub answers : ℕ → List ℤ → Result Book Refusal → List ℕ
answers n t (Ok b) = shown n t b
answers n t (Err why) = line_x why

pub moved : ℕ → List ℤ → Book → Move → Result Book Refusal
moved n t b (put x) = pin n t b work_room x
moved n t b back = take_back b

pub night : ℕ → List ℤ → Book → List Move → List ℕ
night n t b [] = []
night n t b (m ∷ ms) = answers n t (moved n t b m) ++ night n t (book_after b (moved n t b m)) ms

pub right : Evening → Bool
right (lent n t ms prints) = same (shown n t empty_book ++ night n t empty_book ms) (codes prints)
right (text source prints) = same (program (codes source)) (codes prints)

pub all_right : list_all right evenings ≡ true
unfolding refuse first_refusal evenings right night moved answers shown clauses_from clauses check_from checked front blank solid feed tokens_from digits natural plain minus number remarks no_more size_c size_v word_cnf word_p header_at header judged_number body_from entry_of behind judged verdict roomed reading row_after digits_of decimal signed forces force_at force_in pass forced clash empty contradicts insert tidy_step tidy add clean_step clean pairs stands replace alone starting give_way meet join leaders torn fixed root linked paired cleaned round after rounds outcome pinned kinds no_kind kind_row signs and_kind parity_kind rule others side and_inputs and_form signings odd group parity first_of anchors found candidates touched depend_step dependents is_output allowed place take_first take_at taken_by taken in_pattern residue free highest level_step levels bit fill_step fill_gates filled ask_root asked line line_b line_f line_l input_field line_g gates_at lines_g line_v line_r listing line_x in_force empty_book out_of_range with_pin without_last book_long take_back work_short held_bad outcome_of contradiction rounds_in stands_in gates_in listed leaves wiped build_verdict build build_listing bad_values bad_value fill_verdict fill_values ask_verdict ask pin_verdict pin printed program_on program mathlib.Core.Bool.xor
all_right = refl
