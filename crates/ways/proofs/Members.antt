-- Laws of membership: in rows of numbers, in rows of rows, in ranges, and at a place.
use Rattle.std.proofs.Common.{◌≡◌, ℕ, zero, suc, ◌+◌, ◌<◌, ◌≤◌, true, eqb, ◌⊎◌, List, [], ◌∷◌, map, length, get_or, set, replicate, flat_map, refl, ap, subst, inl, inr, ⊎_elim, arith, get_or-set_other, get_or-set_same, eq-eqb, eqb-true}
use mathlib.Core.List.Memᴰ
use mathlib.Core.List.{Memᴰ}
use Rattle.std.specs.Cmp.Lexicographic.{bytes_decides}
use Rattle.std.specs.List.{range_with_len}
use Rattle.std.proofs.lemmas.Bool.{cases_eq, cases_lt}
use Rattle.std.proofs.lemmas.List.{get_or-replicate, get_or_past, length-replicate, set_past, get_or-map, length-map}
use Rattle.ways.specs.Ways.{has, same, among}
use Rattle.ways.proofs.Rows.{list_any-mem, mem-list_any}

pub has-mem : (x : ℕ) (xs : List ℕ) → has x xs ≡ true → Memᴰ x xs
has-mem x xs e = let (y, m, q) = list_any-mem (eqb x) xs e in Memᴰ.cast (eqb-true x y q) m

pub mem-has : (x : ℕ) (xs : List ℕ) → Memᴰ x xs → has x xs ≡ true
mem-has x xs m = mem-list_any (eqb x) xs x m (eq-eqb x x refl)

pub among-mem : (c : List ℕ) (cs : List (List ℕ)) → among c cs ≡ true → Memᴰ c cs
among-mem c cs e = let (d, m, q) = list_any-mem (same c) cs e in Memᴰ.cast ((bytes_decides c d).0 q) m

pub mem-among : (c : List ℕ) (cs : List (List ℕ)) → Memᴰ c cs → among c cs ≡ true
mem-among c cs m = mem-list_any (same c) cs c m ((bytes_decides c c).1 refl)

-- What stands in the rows of a row's elements, joined: it stands in one of them.
pub flat_mem : {X Y : Type 0} (f : X → List Y) (xs : List X) (y : Y) → Memᴰ y (flat_map f xs) → (x : X) × Memᴰ x xs × Memᴰ y (f x)
flat_mem f [] y i = absurd (Memᴰ.not-nil i)
flat_mem f (x ∷ xs) y i =
    ⊎_elim (λ j. (x, Memᴰ.head refl, j)) (λ j. let (z, k, h) = flat_mem f xs y j in (z, Memᴰ.tail k, h)) (Memᴰ.append_cases (f x) i)

pub mem_flat : {X Y : Type 0} (f : X → List Y) (xs : List X) (x : X) (y : Y) → Memᴰ x xs → Memᴰ y (f x) → Memᴰ y (flat_map f xs)
mem_flat {X = X} {Y = Y} f [] x y i j = elim i [ ]
mem_flat f (z ∷ xs) x y (Memᴰ.head e) j = Memᴰ.append_left (flat_map f xs) (subst (λ w. Memᴰ y (f w)) e j)
mem_flat f (z ∷ xs) x y (Memᴰ.tail i) j = Memᴰ.append_right (f z) (mem_flat f xs x y i j)

-- Ranges.
pub mem-range : (b k v : ℕ) → b ≤ v → v < b + k → Memᴰ v (range_with_len b k)
mem-range b zero v h i = absurd (omega arith)
mem-range b (suc k) v h i = ⊎_elim Memᴰ.head (λ n. Memᴰ.tail (mem-range (b + 1) k v (omega arith) (omega arith))) (cases_eq v b)

pub range-mem : (b k v : ℕ) → Memᴰ v (range_with_len b k) → (b ≤ v) × (v < b + k)
range-mem b zero v i = absurd (Memᴰ.not-nil i)
range-mem b (suc k) v (Memᴰ.head e) = (omega arith, omega arith)
range-mem b (suc k) v (Memᴰ.tail i) = let (l, h) = range-mem (b + 1) k v i in (omega arith, omega arith)

-- A place of a row.
pub get_or-mem : {X : Type 0} (c : List X) (i : ℕ) (d : X) → i < length c → Memᴰ (get_or c i d) c
get_or-mem [] i d h = absurd (omega arith)
get_or-mem (x ∷ c) zero d h = Memᴰ.head refl
get_or-mem (x ∷ c) (suc i) d h = Memᴰ.tail (get_or-mem c i d (omega arith))

-- A place of a row of equal elements, or beyond it.
pub get_or_same : {X : Type 0} (k v : ℕ) (d : X) → get_or (replicate k d) v d ≡ d
get_or_same k v d = ⊎_elim (get_or-replicate k v d d) (λ h. get_or_past (replicate k d) v d (rw (length-replicate k d) h)) (cases_lt v k)

-- A place of a row where one element was written: what was written, or what was there.
pub set_cases : {X : Type 0} (xs : List X) (i j : ℕ) (y d : X) → (get_or (set xs i y) j d ≡ y) ⊎ (get_or (set xs i y) j d ≡ get_or xs j d)
set_cases xs i j y d =
    ⊎_elim
    (λ e. ⊎_elim (λ h. inl (rw e (get_or-set_same xs i y d h))) (λ h. inr (ap (λ zs. get_or zs j d) (set_past xs i y h))) (cases_lt i (length xs)))
    (λ n. inr (get_or-set_other xs i j y d n)) (cases_eq j i)

-- A place of a mapped row, or beyond it.
pub map_cases : {X Y : Type 0} (f : X → Y) (xs : List X) (i : ℕ) (d : X) (e : Y) → (get_or (map f xs) i e ≡ f (get_or xs i d)) ⊎ ((get_or (map f xs) i e ≡ e) × (get_or xs i d ≡ d))
map_cases f xs i d e =
    ⊎_elim (λ h. inl (get_or-map f xs i d e h)) (λ h. inr (get_or_past (map f xs) i e (rw (length-map xs f) h), get_or_past xs i d h)) (cases_lt i (length xs))
