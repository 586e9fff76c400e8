-- What the answers of build, fill and ask mean, said of what is lent and what comes back alone. b: a lent book, as it stands after
-- any run of pins and take-backs.
use Rattle.std.specs.Prelude.{ℕ, ◌≤◌, ◌≡◌, Bool, true, false, List, ◌++◌, ℤ, length, take, Ok, Err}
use mathlib.Core.List.{Memᴰ}
use Rattle.std.specs.List.{flat_map}
use Rattle.ways.specs.Ways.{among}
use Rattle.tables.specs.Literal.{valued}
use Rattle.tables.specs.Clause.{satisfies_all}
use Rattle.tables.specs.declared.numbers.Refusal.TheVariants.{Contradiction}
use Rattle.texts.specs.Buffer.{front}
use Rattle.rules.specs.Rounds.{pinned}
use Rattle.rules.specs.Patterns.{written_out}
use Rattle.rules.specs.Taking.{taken}
use Rattle.rules.specs.Circuit.{residue, free}
use Rattle.rules.specs.Listing.{listing}
use Rattle.rules.specs.Pins.{in_force}
use Rattle.rules.specs.Calls.{outcome_of, stands_in, gates_in, build, build_listing, fill_verdict, fill_values, ask}
use Rattle.rules.specs.declared.book.Book.{Book}
use Rattle.rules.specs.declared.built.Built.{Built}
use Rattle.demands.specs.Evening.{Settles}

-- BUILD, accepted: what stands at the buffer's front is the listing of the evening with the pins in force, and the gates in it,
-- written out again as clauses, with the residue are the settled table.
abbrev pub ListedCircuit : Type 0
ListedCircuit =
    (n : ℕ) (t : List ℤ) (b : Book) (work : ℕ) (buffer : List ℕ) (built : Built) → build n t b work (length buffer) ≡ Ok built
    → (st : List ℕ) × (cs : List (List ℕ)) × Settles n t (in_force b) built.rounds st cs
    × (built.bytes ≡ length (listing n built.rounds st cs (taken n cs)))
    × (build_listing n t b work buffer ≡ front (listing n built.rounds st cs (taken n cs)) buffer)
    × ((c : List ℕ) → among c (flat_map written_out (taken n cs) ++ residue (taken n cs) cs) ≡ among c cs)

-- BUILD, refused by 4: no assignment satisfies the table and the pins in force.
abbrev pub ImpossiblePlan : Type 0
ImpossiblePlan =
    (n : ℕ) (t : List ℤ) (b : Book) (work room r : ℕ) → build n t b work room ≡ Err (Contradiction r)
    → (values : List ℕ) → satisfies_all (valued values) (pinned t (in_force b)) ≡ false

-- FILL, accepted: what stands at the buffer's front satisfies the table and the pins exactly when it satisfies the residue.
abbrev pub FilledPlan : Type 0
FilledPlan =
    (n : ℕ) (t : List ℤ) (b : Book) (work : ℕ) (given buffer : List ℕ) → fill_verdict n t b work given (length buffer) ≡ Ok tt
    → (r : ℕ) × (st : List ℕ) × (cs : List (List ℕ)) × Settles n t (in_force b) r st cs
    × (satisfies_all (valued (take n (fill_values n t b work given buffer))) (pinned t (in_force b))
    ≡ satisfies_all (valued (take n (fill_values n t b work given buffer))) (residue (taken n cs) cs))

-- Every assignment that satisfies them is what a fill makes of its own free values.
abbrev pub OwnPlan : Type 0
OwnPlan =
    (n : ℕ) (t : List ℤ) (b : Book) (work : ℕ) (given buffer : List ℕ) → fill_verdict n t b work given (length buffer) ≡ Ok tt
    → (plan : List ℕ) → length plan ≡ n → ((x : ℕ) → Memᴰ x plan → x ≤ 1) → satisfies_all (valued plan) (pinned t (in_force b)) ≡ true
    → ((v : ℕ) → free (stands_in (outcome_of n t b)) (gates_in n (outcome_of n t b)) v ≡ true → valued given v ≡ valued plan v)
    → take n (fill_values n t b work given buffer) ≡ plan

-- ASK, accepted: the fill of the same values is accepted too, and the answer is the variable's place in it.
abbrev pub AskedPlace : Type 0
AskedPlace =
    (n : ℕ) (t : List ℤ) (b : Book) (work : ℕ) (given : List ℕ) (v : ℕ) (x : Bool) → ask n t b work given v ≡ Ok x
    → (buffer : List ℕ) → n ≤ length buffer
    → (fill_verdict n t b work given (length buffer) ≡ Ok tt) × (valued (take n (fill_values n t b work given buffer)) v ≡ x)
