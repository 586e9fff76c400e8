-- Laws of the index: where a row's clauses of one key are.
use Rattle.std.proofs.Common.{◌≡◌, ◌∙◌, refl, sym, ap, subst, ℕ, ◌+◌, ◌*◌, ◌%◌, ◌<◌, ◌≤◌, ⊎_elim, List, [], ◌∷◌, ◌++◌, map, length, get_or, set, drop, replicate, ℤ, pos, eqb, filter, arith, ne_eqb, eq-eqb, get_or-set_other, get_or-set_same, length-set, append_assoc}
use Rattle.std.proofs.lemmas.Bool.{cases_eq}
use Rattle.std.proofs.lemmas.List.{drop_all, drop_more, get_or-replicate, length-replicate, append-nil}
use Rattle.tables.specs.Literal.{literal, var}
use Rattle.tables.specs.Clause.{clauses_from, clauses}
use Rattle.tables.proofs.Literals.{literal_zero}
use Rattle.tables.proofs.Clauses.{clause_ends, clause_grows}
use Rattle.patterns.specs.Index.{first_part, behind, key, with_key, Leads, Linked, Indexed, Heads, Links}

-- A row's first entry: a zero, or another.
module _ (z : ℤ) (zs : List ℤ) where
  pub part_ends : literal z ≡ 0 → first_part (z ∷ zs) ≡ []
  unfolding first_part
  part_ends e = rw (eq-eqb (literal z) 0 e) refl

  pub part_grows : (literal z ≡ 0 → ⊥) → first_part (z ∷ zs) ≡ literal z ∷ first_part zs
  unfolding first_part
  part_grows e = rw (ne_eqb (literal z) 0 e) refl

  behind_ends : literal z ≡ 0 → behind (z ∷ zs) ≡ zs
  unfolding behind
  behind_ends e = rw (eq-eqb (literal z) 0 e) refl

  behind_grows : (literal z ≡ 0 → ⊥) → behind (z ∷ zs) ≡ behind zs
  unfolding behind
  behind_grows e = rw (ne_eqb (literal z) 0 e) refl

-- A row's clauses: the first part and those behind it, or none where no zero ends it.
pub data Parts (before : List ℕ) (zs : List ℤ) : Type 0 where
  none : clauses_from before zs ≡ [] → clauses (behind zs) ≡ [] → Parts before zs
  some : clauses_from before zs ≡ (before ++ first_part zs) ∷ clauses (behind zs) → Parts before zs

module _ (before : List ℕ) (z : ℤ) (zs : List ℤ) where
  parts_end : literal z ≡ 0 → Parts before (z ∷ zs)
  unfolding clauses
  parts_end e = some (clause_ends before z zs e ∙ rw (part_ends z zs e, behind_ends z zs e, append-nil before) refl)

  parts_on : (literal z ≡ 0 → ⊥) → Parts (before ++ (literal z ∷ [])) zs → Parts before (z ∷ zs)
  parts_on e (none p q) = none (clause_grows before z zs e ∙ p) (rw (behind_grows z zs e) q)
  parts_on e (some p) = some (clause_grows before z zs e ∙ p ∙ rw (part_grows z zs e, behind_grows z zs e, append_assoc before (literal z ∷ []) (first_part zs)) refl)

no_parts : (before : List ℕ) → Parts before []
unfolding clauses_from clauses behind
no_parts before = none refl refl

parts_from : (before : List ℕ) (zs : List ℤ) → Parts before zs
parts_from before [] = no_parts before
parts_from before (z ∷ zs) = ⊎_elim (parts_end before z zs) (λ e. parts_on before z zs e (parts_from (before ++ (literal z ∷ [])) zs)) (cases_eq (literal z) 0)

pub parts : (zs : List ℤ) → Parts [] zs
parts zs = parts_from [] zs

-- The clauses of another key than the first part's are behind it.
other_key : (k : ℕ) (zs : List ℤ) → (key (first_part zs) ≡ k → ⊥) → Parts [] zs → with_key k (clauses zs) ≡ with_key k (clauses (behind zs))
unfolding with_key clauses
other_key k zs h (none p q) = ap (filter (λ c. eqb (key c) k)) (p ∙ sym q)
other_key k zs h (some p) = rw (p, ne_eqb (key (first_part zs)) k h) refl

none_open : 0 ≡ key []
unfolding key
none_open = refl

key_cons : (l : ℕ) (c : List ℕ) → key (l ∷ c) ≡ (31 * key c + var l) % 1024
unfolding key
key_cons l c = refl

pub key_below : (c : List ℕ) → key c < 1024
unfolding key
key_below [] = omega arith
key_below (l ∷ c) = omega arith

-- The key of some entries before those of a key, read back from the last one on.
unfoldable pub key_before : ℕ → List ℤ → ℕ
key_before k [] = k
key_before k (z ∷ zs) = (31 * key_before k zs + var (literal z)) % 1024

pub key_start : (zs : List ℤ) → key (map literal zs) ≡ key_before 0 zs
unfolding key key_before
key_start [] = refl
key_start (z ∷ zs) = ap (λ n. (31 * n + var (literal z)) % 1024) (key_start zs)

pub key_back : (k : ℕ) (zs : List ℤ) (z : ℤ) → key_before k (zs ++ (z ∷ [])) ≡ key_before ((31 * k + var (literal z)) % 1024) zs
unfolding key_before
key_back k [] z = refl
key_back k (x ∷ zs) z = ap (λ n. (31 * n + var (literal x)) % 1024) (key_back k zs z)

-- Reading the row back: from its end on.
pub heads_start : (row : List ℤ) (heads : List ℕ) → length heads ≡ 1024 → ((k : ℕ) → k < 1024 → get_or heads k 0 ≡ length row) → Heads row (length row) 0 heads
unfolding first_part behind key with_key clauses clauses_from
heads_start row heads h f = record {
  keys = h;
  open_key = rw (drop_all (length row) row (omega arith)) refl;
  leads = λ j l. record {
    alike = rw (f j l, drop_all (length row) row (omega arith)) refl;
    keyed = λ m. absurd (let e = f j l in omega arith);
  };
}

pub filled : (row : List ℤ) (n : ℕ) → n ≡ 1024 → Heads row (length row) 0 (replicate n (length row))
filled row n e = heads_start row (replicate n (length row)) (length-replicate n (length row) ∙ e) (λ k l. get_or-replicate n k (length row) 0 (omega arith))

module _ (row : List ℤ) (i k : ℕ) (heads : List ℕ) (h : i < length row) (now : Heads row (i + 1) k heads) where
  at_place : drop i row ≡ get_or row i (pos 0) ∷ drop (i + 1) row
  at_place = drop_more row i (pos 0) h

  -- A zero: the clause that starts behind it is the first of its key.
  pub heads_end : k < 1024 → get_or row i (pos 0) ≡ pos 0 → Heads row i 0 (set heads k (i + 1))
  heads_end b e = record {
    keys = length-set heads k (i + 1) ∙ now.keys;
    open_key = none_open ∙ ap key (sym part);
    leads = λ j l. subst (λ zs. Leads row j zs (get_or (set heads k (i + 1)) j 0)) (sym rest) (⊎_elim (own j) (other j l) (cases_eq j k));
  }
    where
      zero : literal (get_or row i (pos 0)) ≡ 0
      zero = ap literal e

      part : first_part (drop i row) ≡ []
      part = ap first_part at_place ∙ part_ends (get_or row i (pos 0)) (drop (i + 1) row) zero

      rest : behind (drop i row) ≡ drop (i + 1) row
      rest = ap behind at_place ∙ behind_ends (get_or row i (pos 0)) (drop (i + 1) row) zero

      inside : k < length heads
      inside = let q = now.keys in omega arith

      own : (j : ℕ) → j ≡ k → Leads row j (drop (i + 1) row) (get_or (set heads k (i + 1)) j 0)
      own j q = rw (q, get_or-set_same heads k (i + 1) 0 inside) (record { alike = refl; keyed = λ _. sym now.open_key })

      other : (j : ℕ) → j < 1024 → (j ≡ k → ⊥) → Leads row j (drop (i + 1) row) (get_or (set heads k (i + 1)) j 0)
      other j l n = rw (get_or-set_other heads k j (i + 1) 0 n) (record { alike = other_key j (drop (i + 1) row) (λ q. n (sym (now.open_key ∙ q))) (parts (drop (i + 1) row)) ∙ (now.leads j l).alike; keyed = (now.leads j l).keyed })

  -- Another entry: the clause is open still.
  pub heads_on : (get_or row i (pos 0) ≡ pos 0 → ⊥) → Heads row i ((31 * k + var (literal (get_or row i (pos 0)))) % 1024) heads
  heads_on e = record {
    keys = now.keys;
    open_key = one_more ∙ ap key (sym part);
    leads = λ j l. subst (λ zs. Leads row j zs (get_or heads j 0)) (sym rest) (now.leads j l);
  }
    where
      some : literal (get_or row i (pos 0)) ≡ 0 → ⊥
      some q = e (literal_zero _ q)

      part : first_part (drop i row) ≡ literal (get_or row i (pos 0)) ∷ first_part (drop (i + 1) row)
      part = ap first_part at_place ∙ part_grows (get_or row i (pos 0)) (drop (i + 1) row) some

      rest : behind (drop i row) ≡ behind (drop (i + 1) row)
      rest = ap behind at_place ∙ behind_grows (get_or row i (pos 0)) (drop (i + 1) row) some

      one_more : (31 * k + var (literal (get_or row i (pos 0)))) % 1024 ≡ key (literal (get_or row i (pos 0)) ∷ first_part (drop (i + 1) row))
      one_more = ap (λ n. (31 * n + var (literal (get_or row i (pos 0)))) % 1024) now.open_key ∙ sym (key_cons _ _)

-- A link is set where the heads are known.
pub links_set : (row : List ℤ) (i k : ℕ) (heads links : List ℕ) → i < length row → Heads row i k heads → k < 1024 → Links row (i + 1) links → Links row i (set links i (get_or heads k 0))
links_set row i k heads links h now b old = record {
  room = rw (length-set links i (get_or heads k 0)) old.room;
  next = λ s l m. ⊎_elim (λ (q : s ≡ i). subst (Linked row (set links i (get_or heads k 0))) (sym q) here) (there s l m) (cases_eq s i);
}
  where
    same : get_or (set links i (get_or heads k 0)) i 0 ≡ get_or heads k 0
    same = get_or-set_same links i (get_or heads k 0) 0 (let r = old.room in omega arith)

    here : Linked row (set links i (get_or heads k 0)) i
    here = rw (same, ← now.open_key) (now.leads k b)

    there : (s : ℕ) → i ≤ s → s < length row → (s ≡ i → ⊥) → Linked row (set links i (get_or heads k 0)) s
    there s l m n =
        let o : get_or (set links i (get_or heads k 0)) s 0 ≡ get_or links s 0 = get_or-set_other links i s (get_or heads k 0) 0 n in
        rw (o) (old.next s (omega arith) m)

-- All is read back.
pub indexed : (row : List ℤ) (k : ℕ) (heads links : List ℕ) → Heads row 0 k heads → k < 1024 → Links row 0 links → Indexed row (set heads k 0) links
indexed row k heads links now b old = record {
  keys = length-set heads k 0 ∙ now.keys;
  room = old.room;
  first = λ j l. ⊎_elim (own j) (other j l) (cases_eq j k);
  next = λ s l. old.next s (omega arith) l;
}
  where
    own : (j : ℕ) → j ≡ k → Leads row j row (get_or (set heads k 0) j 0)
    own j q = rw (q, get_or-set_same heads k 0 0 (let m = now.keys in omega arith)) (record { alike = refl; keyed = λ _. sym now.open_key })

    other : (j : ℕ) → j < 1024 → (j ≡ k → ⊥) → Leads row j row (get_or (set heads k 0) j 0)
    other j l n = rw (get_or-set_other heads k j 0 0 n) (record { alike = other_key j row (λ q. n (sym (now.open_key ∙ q))) (parts row) ∙ (now.leads j l).alike; keyed = (now.leads j l).keyed })
