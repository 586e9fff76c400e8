-- The clauses of a row by keys of their variables: chains through the row from each key's first clause on.
use Rattle.std.specs.Prelude.{ℕ, ◌≡◌, ◌+◌, ◌*◌, ◌%◌, ◌<◌, ◌≤◌, cond, List, [], ◌∷◌, ℤ, drop, length, get_or, eqb}
use Rattle.std.specs.List.{filter}
use Rattle.tables.specs.Literal.{literal, var}
use Rattle.tables.specs.Clause.{clauses}

-- The literals before a row's first zero, and the entries behind it.
unfoldable pub first_part : List ℤ → List ℕ
first_part [] = []
first_part (z ∷ zs) = cond (eqb (literal z) 0) [] (literal z ∷ first_part zs)

unfoldable pub behind : List ℤ → List ℤ
behind [] = []
behind (z ∷ zs) = cond (eqb (literal z) 0) zs (behind zs)

-- A clause's key: clauses over the same variables have the same.
unfoldable pub key : List ℕ → ℕ
key [] = 0
key (l ∷ c) = (31 * key c + var l) % 1024

unfoldable pub with_key : ℕ → List (List ℕ) → List (List ℕ)
with_key k cs = filter (λ c. eqb (key c) k) cs

-- The clause that starts at a place of the row is of the key.
abbrev pub Begins : List ℤ → ℕ → ℕ → Type 0
Begins row k at = at < length row → key (first_part (drop at row)) ≡ k

-- The clauses of a key among some entries are those from a place of the row on, and the first of these starts there.
pub record Leads (row : List ℤ) (k : ℕ) (zs : List ℤ) (at : ℕ) : Type 0 where
  pub alike : with_key k (clauses zs) ≡ with_key k (clauses (drop at row))
  pub keyed : Begins row k at

-- The link of a place leads on behind the clause that starts there.
abbrev pub Linked : List ℤ → List ℕ → ℕ → Type 0
Linked row links s = Leads row (key (first_part (drop s row))) (behind (drop s row)) (get_or links s 0)

pub record Indexed (row : List ℤ) (heads links : List ℕ) : Type 0 where
  pub keys : length heads ≡ 1024
  pub room : length row ≤ length links
  pub first : (k : ℕ) → k < 1024 → Leads row k row (get_or heads k 0)
  pub next : (s : ℕ) → s < length row → Linked row links s

-- What is known of the heads when the row is read back to a place, where the key is that of the clause that is open there.
pub record Heads (row : List ℤ) (i k : ℕ) (heads : List ℕ) : Type 0 where
  pub keys : length heads ≡ 1024
  pub open_key : k ≡ key (first_part (drop i row))
  pub leads : (j : ℕ) → j < 1024 → Leads row j (behind (drop i row)) (get_or heads j 0)

pub record Links (row : List ℤ) (i : ℕ) (links : List ℕ) : Type 0 where
  pub room : length row ≤ length links
  pub next : (s : ℕ) → i ≤ s → s < length row → Linked row links s
