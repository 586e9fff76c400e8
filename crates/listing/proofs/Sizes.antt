-- How long a listing can be: its bytes can be counted.
use Rattle.std.proofs.Common.{◌≡◌, refl, ap, ℕ, zero, suc, ◌+◌, ◌-◌, ◌*◌, ◌^◌, ◌<◌, ◌≤◌, Bool, true, false, cond, not, ◌&&◌, eqb, ⊎_elim, ℤ, List, [], ◌∷◌, ◌++◌, map, filter, length, get_or, drop, codes, arith, length-append}
use mathlib.Core.List.Memᴰ
use mathlib.Core.List.{Memᴰ}
use Prim.Native.String.{String}
use Rattle.std.specs.List.{All, flat_map, range_with_len}
use Rattle.std.proofs.lemmas.Bool.{cases_lt}
use Rattle.std.proofs.lemmas.List.{get_or_past, length-map, length-take, length-drop}
use Rattle.std.proofs.lemmas.List.FromFn.{length-range_with_len}
use Rattle.std.proofs.lemmas.List.Elements.{All-head, All-tail}
use Rattle.std.proofs.lemmas.List.Sums.{count_by-le-length, length-filter}
use Rattle.ways.proofs.Members.{range-mem}
use Rattle.tables.specs.declared.numbers.Refusal.{Refusal}
use Rattle.tables.specs.declared.numbers.Refusal.TheVariants.{Unreadable, TooLarge, Undeclared, Contradiction, OutOfRange, BookFull, NothingHeld, ShortBuffer, ShortWork, BadValue}
use Rattle.tables.specs.Numbers.{number_of, place_of}
use Rattle.tables.specs.Literal.{literal, var}
use Rattle.tables.specs.Clause.{clauses_from, clauses}
use Rattle.texts.specs.Decimal.{decimal, signed}
use Rattle.texts.specs.Laying.{Laid, lay}
use Rattle.texts.proofs.DecimalSteps.{decimal_few}
use Rattle.texts.proofs.WriteSteps.{clauses_counted, decimal_short, signed_short}
use Rattle.rules.specs.Pairs.{stands, fixed, linked}
use Rattle.rules.specs.Kinds.{kinds, no_kind, kind_row}
use Rattle.rules.specs.Patterns.{Gate, others}
use Rattle.rules.specs.Circuit.{in_pattern, residue, free, levels}
use Rattle.rules.specs.Listing.{line, line_b, line_f, line_l, input_field, line_g, gates_at, lines_g, line_v, line_r, listing, line_x}
use Rattle.gates.specs.declared.site.Site.{Site}
use Rattle.gates.specs.Sites.{entries_of, anchor_of, gate_of, gates_of}
use Rattle.gates.specs.Inputs.{input, inputs}
use Rattle.gates.proofs.SiteLaws.{output_at}
use Rattle.gates.proofs.SiteGates.{inputs_are}
use Rattle.filling.proofs.Filled.{all_mem, input_inside}
use Rattle.listing.specs.Fields.{field, fields}

pub clauses_few : (row : List ℤ) → length (clauses row) ≤ length row
clauses_few row = rw clauses_counted (count_by-le-length (λ z. eqb (literal z) 0) row)

-- Rows joined.
module _ {X : Type 0} (f : X → List ℕ) where
  flat_short : (k : ℕ) (xs : List X) → ((x : X) → Memᴰ x xs → length (f x) ≤ k) → length (flat_map f xs) ≤ k * length xs
  flat_short k [] h = omega arith
  flat_short k (x ∷ xs) h =
      let here = h x (Memᴰ.head refl) in
      let more = flat_short k xs (λ y i. h y (Memᴰ.tail i)) in
      omega (arith, length-append (f x) (flat_map f xs))

  less : (b : Bool) (x : X) (ys xs : List X) → length (flat_map f ys) ≤ length (flat_map f xs) → length (flat_map f (cond b (x ∷ ys) ys)) ≤ length (flat_map f (x ∷ xs))
  less true x ys xs h = omega (arith, length-append (f x) (flat_map f ys), length-append (f x) (flat_map f xs))
  less false x ys xs h = omega (arith, length-append (f x) (flat_map f xs))

  some_short : (p : X → Bool) (xs : List X) → length (flat_map f (filter p xs)) ≤ length (flat_map f xs)
  some_short p [] = omega arith
  some_short p (x ∷ xs) = less (p x) x (filter p xs) xs (some_short p xs)

some_few : {X : Type 0} (p : X → Bool) (xs : List X) → length (filter p xs) ≤ length xs
some_few p xs = rw length-filter (count_by-le-length p xs)

variables_few : (p : ℕ → Bool) (n : ℕ) → length (filter p (range_with_len 1 n)) ≤ n
variables_few p n = omega (arith, some_few p (range_with_len 1 n), length-range_with_len 1 n)

-- For each variable at most k bytes.
variables_short : (f : ℕ → List ℕ) (p : ℕ → Bool) (k n : ℕ) → ((v : ℕ) → v ≤ n → length (f v) ≤ k) → length (flat_map f (filter p (range_with_len 1 n))) ≤ k * n
variables_short f p k n h =
    let all : length (flat_map f (range_with_len 1 n)) ≤ k * length (range_with_len 1 n) =
    flat_short f k (range_with_len 1 n) (λ v i. let m = range-mem 1 n v i in h v (omega arith)) in
    let e : k * length (range_with_len 1 n) ≡ k * n = ap (λ m. k * m) (length-range_with_len 1 n) in
    omega (arith, some_short f p (range_with_len 1 n))

-- Lines.
line_long : (tag : String) (fs : List (List ℕ)) → length (line tag fs) ≡ length (codes tag) + (length (fields fs) + 1)
unfolding line
line_long tag fs = omega (arith, length-append (codes tag) (fields fs ++ codes "\n"), length-append (fields fs) (codes "\n"))

field_long : (f : List ℕ) (fs : List (List ℕ)) → length (fields (f ∷ fs)) ≡ length f + 1 + length (fields fs)
field_long f fs = omega (arith, length-append (field f) (fields fs))

stands_low : (n : ℕ) (st : List ℕ) → All (λ l. var l ≤ n) st → (v : ℕ) → v ≤ n → stands st v ≤ 2 * n + 1
unfolding stands
stands_low n st low v h =
    ⊎_elim (λ k. let l : var (get_or st v (2 * v)) ≤ n = low v (2 * v) k in omega arith) (λ k. let e : get_or st v (2 * v) ≡ 2 * v = get_or_past st v (2 * v) k in omega arith)
    (cases_lt v (length st))

f_short : (n : ℕ) (st : List ℕ) → n ≤ 1024 → All (λ l. var l ≤ n) st → (v : ℕ) → v ≤ n → length (line_f st v) ≤ 4000
unfolding line_f
f_short n st few low v h =
    let l : stands st v ≤ 2 * n + 1 = stands_low n st low v h in
    omega (
      arith,
      line_long "F" (decimal v ∷ decimal (stands st v) ∷ []),
      field_long (decimal v) (decimal (stands st v) ∷ []),
      field_long (decimal (stands st v)) [],
      decimal_short v,
      decimal_short (stands st v),
    )

l_short : (n : ℕ) (st : List ℕ) → n ≤ 1024 → All (λ l. var l ≤ n) st → (v : ℕ) → v ≤ n → length (line_l st v) ≤ 4000
unfolding line_l
l_short n st few low v h =
    let l : stands st v ≤ 2 * n + 1 = stands_low n st low v h in
    omega (
      arith,
      line_long "L" (decimal v ∷ signed (stands st v) ∷ []),
      field_long (decimal v) (signed (stands st v) ∷ []),
      field_long (signed (stands st v)) [],
      decimal_short v,
      signed_short (stands st v),
    )

v_short : (n : ℕ) → n ≤ 1024 → (v : ℕ) → v ≤ n → length (line_v v) ≤ 4000
unfolding line_v
v_short n few v h = omega (arith, line_long "V" (decimal v ∷ []), field_long (decimal v) [], decimal_short v)

-- R lines: a byte more than 1,030 for no entry.
literals_long : (c d : List ℕ) → length (fields (map signed (c ++ d))) ≡ length (fields (map signed c)) + length (fields (map signed d))
literals_long [] d = omega arith
literals_long (l ∷ c) d =
    omega (arith, field_long (signed l) (map signed (c ++ d)), field_long (signed l) (map signed c), literals_long c d)

open_short : (row : List ℤ) (b : List ℕ) → All (λ e. var (literal e) ≤ 1024) row → length (flat_map line_r (clauses_from b row)) ≤ length (fields (map signed b)) + 1030 * length row
unfolding clauses_from line_r
open_short [] b low = omega arith
open_short (z ∷ zs) b low = go (eqb (literal z) 0) (open_short zs [] more) (open_short zs (b ++ (literal z ∷ [])) more)
  where
    first : var (literal z) ≤ 1024
    first = All-head (λ e. var (literal e) ≤ 1024) z zs low

    more : All (λ e. var (literal e) ≤ 1024) zs
    more = All-tail (λ e. var (literal e) ≤ 1024) z zs low

    go : (q : Bool) → length (flat_map line_r (clauses_from [] zs)) ≤ 0 + 1030 * length zs
        → length (flat_map line_r (clauses_from (b ++ (literal z ∷ [])) zs)) ≤ length (fields (map signed (b ++ (literal z ∷ [])))) + 1030 * length zs
        → length (flat_map line_r (elim q as (λ _. List (List ℕ)) [ true ↦ b ∷ clauses_from [] zs | false ↦ clauses_from (b ++ (literal z ∷ [])) zs ]))
        ≤ length (fields (map signed b)) + 1030 * suc (length zs)
    go true h k = omega (arith, length-append (line_r b) (flat_map line_r (clauses_from [] zs)), line_long "R" (map signed b))
    go false h k = omega (arith, first, literals_long b (literal z ∷ []), field_long (signed (literal z)) [], signed_short (literal z))

r_short : (row : List ℤ) (gs : List Gate) → All (λ e. var (literal e) ≤ 1024) row → length (flat_map line_r (residue gs (clauses row))) ≤ 1030 * length row
unfolding residue clauses
r_short row gs low = let all = open_short row [] low in let some = some_short line_r (λ c. not (in_pattern gs c)) (clauses_from [] row) in omega arith

-- G lines.
name_short : (k : ℕ) → length (codes (kind_row k).name) ≤ 4
unfolding kind_row kinds no_kind
name_short zero = omega arith
name_short (suc zero) = omega arith
name_short (suc (suc zero)) = omega arith
name_short (suc (suc (suc zero))) = omega arith
name_short (suc (suc (suc (suc zero)))) = omega arith
name_short (suc (suc (suc (suc (suc zero))))) = omega arith
name_short (suc (suc (suc (suc (suc (suc zero)))))) = omega arith
name_short (suc (suc (suc (suc (suc (suc (suc zero))))))) = omega arith
name_short (suc (suc (suc (suc (suc (suc (suc (suc k)))))))) = omega arith

input_short : (k x : ℕ) → var x ≤ 1024 → length (input_field k x) ≤ 1026
unfolding input_field
input_short k x h = go (eqb (kind_row k).input_signs 2)
  where
    go : (b : Bool) → length (cond b (signed x) (decimal (var x))) ≤ 1026
    go true = omega (arith, signed_short x)
    go false = omega (arith, decimal_short (var x))

inputs_few : (row : List ℤ) (s : Site) → length (gate_of row s).inputs ≤ length row
unfolding inputs others
inputs_few row s =
    let these : length (inputs row s) ≡ length (others s.output (anchor_of row s)) = length-map (others s.output (anchor_of row s)) (input s) in
    let some = some_few (λ x. not (eqb x s.output)) (anchor_of row s) in
    let all : length (anchor_of row s) ≡ length (entries_of row s) = length-map (entries_of row s) literal in
    rw inputs_are (omega (arith, length-take (s.end - s.start) (drop s.start row), length-drop s.start row))

module _ (n : ℕ) (row : List ℤ) (few : n ≤ 1024) (short : length row ≤ 16384) (inside : All (λ e. var (literal e) ≤ n) row) where
  inputs_short : (k : ℕ) (s : Site) → length (fields (map (input_field k) (gate_of row s).inputs)) ≤ 16826368
  inputs_short k s =
      let ins = (gate_of row s).inputs in
      let each : length (fields (map (input_field k) ins)) ≤ 1027 * length (map (input_field k) ins) =
      flat_short field 1027 (map (input_field k) ins)
      (λ f i. let (x, m, e) = Memᴰ.of_map (input_field k) ins i in
      let low : var x ≤ n = input_inside n row s inside x m in
      let h : length (input_field k x) ≤ 1026 = input_short k x (omega arith) in
      let q : length (input_field k x) ≡ length f = ap length e in
      omega arith) in
      let e : length (map (input_field k) ins) ≡ length ins = length-map ins (input_field k) in
      omega (arith, inputs_few row s)

  g_short : (level : ℕ) (s : Site) → level ≤ 1024 → var s.output ≤ n → length (line_g level (gate_of row s)) ≤ 17000000
  unfolding line_g
  g_short level s low out =
      let g = gate_of row s in
      let o : g.output ≡ var s.output = output_at row s in
      let ins = map (input_field g.kind) g.inputs in
      let name = codes (kind_row g.kind).name in
      omega (
        arith,
        line_long "G" (decimal level ∷ name ∷ decimal g.output ∷ ins),
        field_long (decimal level) (name ∷ decimal g.output ∷ ins),
        field_long name (decimal g.output ∷ ins),
        field_long (decimal g.output) ins,
        decimal_short level,
        name_short g.kind,
        decimal_short g.output,
        inputs_short g.kind s,
      )

  module _ (sites : List Site) (few_gates : length sites ≤ 1024) (outputs : All (λ s. var s.output ≤ n) sites) where
    at_short : (level v : ℕ) → level ≤ 1024 → length (flat_map (line_g level) (gates_at n (gates_of row sites) level v)) ≤ 17408000000
    unfolding gates_at
    at_short level v low =
        let all : length (flat_map (line_g level) (gates_of row sites)) ≤ 17000000 * length (gates_of row sites) =
        flat_short (line_g level) 17000000 (gates_of row sites)
        (λ g i. let (s, m, e) = Memᴰ.of_map (gate_of row) sites i in
        let h = g_short level s low (all_mem (λ (s : Site). var s.output ≤ n) sites outputs s m) in
        let q : length (line_g level (gate_of row s)) ≡ length (line_g level g) = ap (λ g. length (line_g level g)) e in
        omega arith) in
        let some = some_short (line_g level) (λ g. eqb g.output v && eqb (get_or (levels n (gates_of row sites)) v 0) level) (gates_of row sites) in
        let e : length (gates_of row sites) ≡ length sites = length-map sites (gate_of row) in
        omega arith

    gates_short : length (lines_g n (gates_of row sites)) ≤ 18253611008000000
    unfolding lines_g
    gates_short =
        let e : length (gates_of row sites) ≡ length sites = length-map sites (gate_of row) in
        let on : ℕ → List ℕ = λ level. flat_map (λ v. flat_map (line_g level) (gates_at n (gates_of row sites) level v)) (range_with_len 1 n) in
        let levels : length (flat_map on (range_with_len 1 (length (gates_of row sites)))) ≤ 17825792000000 * length (range_with_len 1 (length (gates_of row sites))) =
        flat_short on 17825792000000 (range_with_len 1 (length (gates_of row sites)))
        (λ level i. let m = range-mem 1 (length (gates_of row sites)) level i in
        let h : length (on level) ≤ 17408000000 * length (range_with_len 1 n) =
        flat_short (λ v. flat_map (line_g level) (gates_at n (gates_of row sites) level v)) 17408000000 (range_with_len 1 n) (λ v j. at_short level v (omega arith)) in
        omega (arith, length-range_with_len 1 n)) in
        omega (arith, length-range_with_len 1 (length (gates_of row sites)))

    -- All of it.
    module _ (r : ℕ) (st : List ℕ) (rounds : r ≤ n + 1) (standing : All (λ l. var l ≤ n) st) where
      b_short : length (line_b n r st (clauses row) (gates_of row sites)) ≤ 100000
      unfolding line_b residue
      b_short =
          let gs = gates_of row sites in
          let cs = residue gs (clauses row) in
          let p = length (filter (fixed st) (range_with_len 1 n)) in
          let l = length (filter (linked st) (range_with_len 1 n)) in
          let f = length (filter (free st gs) (range_with_len 1 n)) in
          let e : length gs ≡ length sites = length-map sites (gate_of row) in
          omega (
            arith,
            line_long "B" (decimal n ∷ decimal r ∷ decimal p ∷ decimal l ∷ decimal (length gs) ∷ decimal f ∷ decimal (length cs) ∷ []),
            field_long (decimal n) (decimal r ∷ decimal p ∷ decimal l ∷ decimal (length gs) ∷ decimal f ∷ decimal (length cs) ∷ []),
            field_long (decimal r) (decimal p ∷ decimal l ∷ decimal (length gs) ∷ decimal f ∷ decimal (length cs) ∷ []),
            field_long (decimal p) (decimal l ∷ decimal (length gs) ∷ decimal f ∷ decimal (length cs) ∷ []),
            field_long (decimal l) (decimal (length gs) ∷ decimal f ∷ decimal (length cs) ∷ []),
            field_long (decimal (length gs)) (decimal f ∷ decimal (length cs) ∷ []),
            field_long (decimal f) (decimal (length cs) ∷ []),
            field_long (decimal (length cs)) [],
            decimal_short n,
            decimal_short r,
            decimal_short p,
            decimal_short l,
            decimal_short (length gs),
            decimal_short f,
            decimal_short (length cs),
            variables_few (fixed st) n,
            variables_few (linked st) n,
            variables_few (free st gs) n,
            some_few (λ c. not (in_pattern gs c)) (clauses row),
            clauses_few row,
          )

      pub listing_short : length (listing n r st (clauses row) (gates_of row sites)) < 2 ^ 64
      unfolding listing
      listing_short =
          let gs = gates_of row sites in
          let b = line_b n r st (clauses row) gs in
          let f = flat_map (line_f st) (filter (fixed st) (range_with_len 1 n)) in
          let l = flat_map (line_l st) (filter (linked st) (range_with_len 1 n)) in
          let g = lines_g n gs in
          let v = flat_map line_v (filter (free st gs) (range_with_len 1 n)) in
          let c = flat_map line_r (residue gs (clauses row)) in
          let low : All (λ e. var (literal e) ≤ 1024) row = λ k d h. let q = inside k d h in omega arith in
          let fs : length f ≤ 4000 * n = variables_short (line_f st) (fixed st) 4000 n (f_short n st few standing) in
          let ls : length l ≤ 4000 * n = variables_short (line_l st) (linked st) 4000 n (l_short n st few standing) in
          let vs : length v ≤ 4000 * n = variables_short line_v (free st gs) 4000 n (v_short n few) in
          let rs : length c ≤ 1030 * length row = r_short row gs low in
          omega (
            arith,
            b_short,
            gates_short,
            length-append b f,
            length-append (b ++ f) l,
            length-append (b ++ f ++ l) g,
            length-append (b ++ f ++ l ++ g) v,
            length-append (b ++ f ++ l ++ g ++ v) c,
          )

-- The line of a refusal.
number_low : (why : Refusal) → number_of why ≤ 10
number_low (Unreadable place) = omega arith
number_low (TooLarge place) = omega arith
number_low (Undeclared place) = omega arith
number_low (Contradiction round) = omega arith
number_low OutOfRange = omega arith
number_low BookFull = omega arith
number_low NothingHeld = omega arith
number_low (ShortBuffer room) = omega arith
number_low ShortWork = omega arith
number_low (BadValue variable) = omega arith

pub x_few : (why : Refusal) → place_of why < 2 ^ 64 → length (line_x why) ≤ 64
unfolding line_x
x_few why h =
    let n = number_of why in
    let p = place_of why in
    let low = number_low why in
    omega (arith, line_long "X" (decimal n ∷ decimal p ∷ []), field_long (decimal n) (decimal p ∷ []), field_long (decimal p) [], decimal_short n, decimal_few 19 p (omega arith))

pub x_short : (why : Refusal) → place_of why < 2 ^ 64 → length (line_x why) < 2 ^ 64
x_short why h = let few = x_few why h in omega arith

pub x_said : (s t : Laid) (why : Refusal) (n p : ℕ) → n ≡ number_of why → p ≡ place_of why → t ≡ lay s (line "X" (decimal n ∷ decimal p ∷ [])) → t ≡ lay s (line_x why)
unfolding line_x
x_said s t why n p e f h = rw (← e, ← f) h
