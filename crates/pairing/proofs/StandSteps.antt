-- Laws of the row that says what each variable stands for.
use Rattle.std.proofs.Common.{◌≡◌, ◌∙◌, refl, sym, ap, subst, ℕ, zero, suc, ◌+◌, ◌-◌, ◌<◌, ◌≤◌, List, [], ◌∷◌, ◌++◌, length, get_or, set, take, drop, map, arith, ℤ, pos, ◌*◌, Bool, true, false, cond, eqb, ltb}
use Rattle.std.proofs.Common.{append_assoc, append-nil}
use Rattle.std.proofs.lemmas.List.{take_more_set, drop_more, drop-set-lt, take_all, drop_all, length-map}
use Rattle.std.specs.List.{All, fold, range_with_len}
use Rattle.std.proofs.lemmas.List.FromFn.{length-map-range_with_len}
use Rattle.std.proofs.lemmas.List.Elements.{All-map, All-nil, All-cons, All-weaker}
use Rattle.tables.specs.Literal.{literal, var, neg, opp}
use Rattle.tables.proofs.Literals.{opp_is}
use Rattle.rules.specs.Forced.{marked}
use Rattle.rules.specs.Pairs.{stands, replace, alone, starting, give_way, meet, join}
use Rattle.settling.proofs.Links.{starting_size as first_size}
use Rattle.settling.proofs.Bound.{meet_size}
use Rattle.pairing.specs.Pairs.{Coded}

-- A map in place: the places before i are written.
pub map_turns : {X : Type 0} (f : X → X) (d : X) (s : List X) (i : ℕ) → i < length s
    → take i s ++ map f (drop i s) ≡ take (i + 1) (set s i (f (get_or s i d))) ++ map f (drop (i + 1) (set s i (f (get_or s i d))))
map_turns f d s i h =
    let lt : i < i + 1 = omega arith in
    rw (take_more_set s i (f (get_or s i d)) h, drop-set-lt (i + 1) s i (f (get_or s i d)) lt, drop_more s i d h, append_assoc) refl

pub map_ends : {X : Type 0} (f : X → X) (s : List X) (i : ℕ) → length s ≤ i → take i s ++ map f (drop i s) ≡ s
map_ends f s i h = rw (take_all i s h, drop_all i s h, append-nil) refl

pub relabel_turns : (low high : ℕ) (s : List ℕ) (i : ℕ) → i < length s
    → take i s ++ map (give_way low high) (drop i s)
    ≡ take (i + 1) (set s i (give_way low high (get_or s i 0))) ++ map (give_way low high) (drop (i + 1) (set s i (give_way low high (get_or s i 0))))
relabel_turns low high = map_turns (give_way low high) 0

pub follow_turns : (r s : List ℕ) (i : ℕ) → i < length s
    → take i s ++ map (replace r) (drop i s)
    ≡ take (i + 1) (set s i (replace r (get_or s i 0))) ++ map (replace r) (drop (i + 1) (set s i (replace r (get_or s i 0))))
follow_turns r = map_turns (replace r) 0

-- The row at first: the places before i are written.
pub start_turns : (m s : List ℕ) (i n : ℕ) → i < n → n ≡ length s
    → take i s ++ map (alone m) (range_with_len i (n - i))
    ≡ take (i + 1) (set s i (alone m i)) ++ map (alone m) (range_with_len (i + 1) (n - (i + 1)))
start_turns m s i n h k =
    let e : n - i ≡ suc (n - (i + 1)) = omega arith in
    let lt : i < length s = omega arith in
    rw (take_more_set s i (alone m i) lt, e, append_assoc) refl

start_rest : (m s : List ℕ) (i n : ℕ) → n ≤ i → n ≡ length s → take i s ++ map (alone m) (range_with_len i (n - i)) ≡ s
start_rest m s i n h k =
    let e : n - i ≡ 0 = omega arith in
    let le : length s ≤ i = omega arith in
    rw (e, take_all i s le, append-nil) refl

-- Place 0 is no variable's.
pub start_ends : (m s : List ℕ) (i n : ℕ) → 1 ≤ n → n ≤ i → n ≡ length s
    → map (alone m) (range_with_len 0 n) ≡ take i s ++ map (alone m) (range_with_len i (n - i)) → set s 0 0 ≡ starting (n - 1) m
unfolding starting
start_ends m s i zero g h k e = absurd (omega arith)
start_ends m s i (suc n) g h k e =
    let less : suc n - 1 ≡ n = omega arith in
    rw less (sym (ap (λ r. set r 0 0) (e ∙ start_rest m s i (suc n) h k)))

-- Codes within the row.
stands_coded : (s : List ℕ) (v : ℕ) → v < length s → Coded s → stands s v < 2 * length s
unfolding stands
stands_coded s v h c = c v (2 * v) h

opp_within : (n l : ℕ) → l < 2 * n → opp l < 2 * n
opp_within n l h = rw (opp_is l) (omega arith)

pub replace_coded : (s : List ℕ) (l : ℕ) → Coded s → var l < length s → replace s l < 2 * length s
unfolding replace
replace_coded s l c h = go (neg l)
  where
    at : stands s (var l) < 2 * length s
    at = stands_coded s (var l) h c

    go : (b : Bool) → cond b (opp (stands s (var l))) (stands s (var l)) < 2 * length s
    go true = opp_within (length s) (stands s (var l)) at
    go false = at

way_coded : (n low high l : ℕ) → low < 2 * n → l < 2 * n → give_way low high l < 2 * n
unfolding give_way
way_coded n low high l g h = go (eqb l high) (eqb l (opp high))
  where
    go : (b c : Bool) → cond b low (cond c (opp low) l) < 2 * n
    go true c = g
    go false true = opp_within n low g
    go false false = h

ways_coded : (low high : ℕ) (s : List ℕ) → low < 2 * length s → Coded s → Coded (map (give_way low high) s)
ways_coded low high s g c =
    let n : length (map (give_way low high) s) ≡ length s = length-map s (give_way low high) in
    subst (λ (x : ℕ). All (λ l. l < 2 * x) (map (give_way low high) s)) (sym n)
    (All-map (λ l. l < 2 * length s) (give_way low high) s (λ k d h. way_coded (length s) low high (get_or s k d) g (c k d h)))

meet_coded : (a b : ℕ) (s : List ℕ) → a < 2 * length s → b < 2 * length s → Coded s → Coded (meet a b s)
unfolding meet
meet_coded a b s g h c = go (eqb (var a) (var b)) (ltb (var a) (var b))
  where
    go : (p q : Bool) → Coded (cond p s (cond q (map (give_way a b) s) (map (give_way b a) s)))
    go true q = c
    go false true = ways_coded a b s g c
    go false false = ways_coded b a s h c

-- The sides of a clause are literals of the row's variables.
pub join_coded : (s c : List ℕ) → Coded s → var (get_or c 0 0) < length s → var (get_or c 1 0) < length s → Coded (join s c)
unfolding join
join_coded s c w g h =
    meet_coded (replace s (get_or c 0 0)) (opp (replace s (get_or c 1 0))) s (replace_coded s (get_or c 0 0) w g) (opp_within (length s) (replace s (get_or c 1 0)) (replace_coded s (get_or c 1 0) w h)) w

-- The row keeps its length.
pub join_size : (s c : List ℕ) → length (join s c) ≡ length s
unfolding join
join_size s c = meet_size _ _ s

joined_size : (s : List ℕ) (cs : List (List ℕ)) → length (fold join s cs) ≡ length s
joined_size s [] = refl
joined_size s (c ∷ cs) = joined_size (join s c) cs ∙ join_size s c

-- The two sides of a clause of two literals.
pub two_sides : (c : List ℤ) → length c ≡ 2 → map literal c ≡ literal (get_or c 0 (pos 0)) ∷ literal (get_or c 1 (pos 0)) ∷ []
two_sides [] e = absurd (omega arith)
two_sides (x ∷ []) e = absurd (omega arith)
two_sides (x ∷ y ∷ []) e = refl
two_sides (x ∷ y ∷ z ∷ c) e = absurd (omega arith)

-- Joined by a clause of entries within the row.
pub joined_coded : (s t : List ℕ) (c : List ℤ) → length c ≡ 2 → All (λ e. var (literal e) < length s) c → Coded s → t ≡ join s (map literal c) → Coded t
joined_coded s t c e h w q =
    let a = h 0 (pos 0) (omega arith) in
    let b = h 1 (pos 0) (omega arith) in
    subst Coded (sym q) (rw (two_sides c e) (join_coded s (literal (get_or c 0 (pos 0)) ∷ literal (get_or c 1 (pos 0)) ∷ []) w a b))

pub replace_fits : (s : List ℕ) (l : ℕ) → length s ≤ 1025 → Coded s → l < 2 * length s → replace s l < 65536
replace_fits s l n c h = let r = replace_coded s l c (omega arith) in omega arith

-- The row at first, and each variable one round further.
alone_coded : (m : List ℕ) (v n : ℕ) → 1 ≤ v → v < 1 + n → alone m v < 2 * suc n
unfolding alone
alone_coded m v n g h = go (marked m (2 * v)) (marked m (2 * v + 1))
  where
    go : (b c : Bool) → cond b 1 (cond c 0 (2 * v)) < 2 * suc n
    go true c = omega arith
    go false true = omega arith
    go false false = omega arith

range_within : (a k : ℕ) → All (λ v. (a ≤ v) × (v < a + k)) (range_with_len a k)
range_within a zero = All-nil (λ v. (a ≤ v) × (v < a + 0))
range_within a (suc k) =
    All-cons (λ v. (a ≤ v) × (v < a + suc k)) a (range_with_len (a + 1) k) (omega arith, omega arith)
    (All-weaker (λ v. (a + 1 ≤ v) × (v < a + 1 + k)) (λ v. (a ≤ v) × (v < a + suc k)) (λ v h. (omega arith, omega arith)) (range_with_len (a + 1) k) (range_within (a + 1) k))

pub starting_size : (s m : List ℕ) (n : ℕ) → 1 ≤ n → s ≡ starting (n - 1) m → length s ≡ n
starting_size s m n h e =
    let more : suc (n - 1) ≡ n = omega arith in
    ap length e ∙ first_size (n - 1) m ∙ more

pub leaders_size : (first s m : List ℕ) (cs : List (List ℕ)) (n : ℕ) → 1 ≤ n → first ≡ starting (n - 1) m → s ≡ fold join first cs → length s ≡ n
leaders_size first s m cs n h e f = ap length f ∙ joined_size first cs ∙ starting_size first m n h e

pub starting_coded : (n : ℕ) (m : List ℕ) → Coded (starting n m)
unfolding starting
starting_coded n m =
    let e : length (map (alone m) (range_with_len 1 n)) ≡ n = length-map-range_with_len (alone m) 1 n in
    subst (λ (x : ℕ). All (λ l. l < 2 * suc x) (starting n m)) (sym e)
    (All-cons (λ l. l < 2 * suc n) 0 (map (alone m) (range_with_len 1 n)) (omega arith)
    (All-map (λ l. l < 2 * suc n) (alone m) (range_with_len 1 n) (λ k d h. let (g, i) = range_within 1 n k d h in alone_coded m (get_or (range_with_len 1 n) k d) n g i)))

pub followed_coded : (r s : List ℕ) → Coded r → All (λ l. l < 2 * length r) s → All (λ l. l < 2 * length r) (map (replace r) s)
followed_coded r s c w =
    All-map (λ l. l < 2 * length r) (replace r) s (λ k d h. let i = w k d h in replace_coded r (get_or s k d) c (omega arith))
