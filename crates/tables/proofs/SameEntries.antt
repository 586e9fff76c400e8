-- Clauses are the same where their entries are, in either order.
use Rattle.std.proofs.Common.{◌≡◌, ◌∙◌, refl, sym, ap, ℕ, Bool, List, [], ◌∷◌, map, ℤ, Decides}
use Rattle.ways.specs.Ways.{same}
use Rattle.ways.proofs.Bools.{agree}
use Rattle.std.specs.Cmp.Lexicographic.{bytes_decides}
use Rattle.tables.specs.Literal.{literal, entry}
use Rattle.tables.proofs.Literals.{entry-literal}

entries_back : (xs : List ℤ) → map entry (map literal xs) ≡ xs
entries_back [] = refl
entries_back (x ∷ xs) = rw (entry-literal x, entries_back xs)

pub same_entries : (xs ys : List ℤ) (r : Bool) → Decides r (xs ≡ ys) → r ≡ same (map literal xs) (map literal ys)
same_entries xs ys r h = agree r (same (map literal xs) (map literal ys))
    (λ e. rw (h.0 e) ((bytes_decides (map literal ys) (map literal ys)).1 refl))
    (λ e. h.1 (sym (entries_back xs) ∙ ap (map entry) ((bytes_decides (map literal xs) (map literal ys)).0 e) ∙ entries_back ys))

pub same_sym : (d e : List ℕ) → same d e ≡ same e d
same_sym d e = agree (same d e) (same e d) (λ q. (bytes_decides e d).1 (sym ((bytes_decides d e).0 q))) (λ q. (bytes_decides d e).1 (sym ((bytes_decides e d).0 q)))
