-- The statements. Each is a type, and a proof of it stands in proofs/ under the same name with small letters. An assignment
-- is a row of values, 0 or 1, the first for variable 1; an equation of two tests says "exactly when".
use Rattle.std.specs.Prelude.{ℕ, ◌+◌, ◌≤◌, ◌<◌, ◌≡◌, Bool, true, false, ◌&&◌, List, ◌++◌, ℤ, length, get_or}
use Rattle.std.specs.Bool.{beq}
use mathlib.Core.List.{Memᴰ}
use Rattle.std.specs.List.{list_all, filter, flat_map, range_with_len}
use Rattle.ways.specs.Ways.{among}
use Rattle.tables.specs.Literal.{var, holds, valued}
use Rattle.tables.specs.Clause.{satisfies_all}
use Rattle.rules.specs.Pairs.{stands, fixed, root, linked}
use Rattle.rules.specs.Rounds.{impossible, outcome, pinned}
use Rattle.rules.specs.Kinds.{rule}
use Rattle.rules.specs.Patterns.{Gate, written_out}
use Rattle.rules.specs.Taking.{is_output, taken}
use Rattle.rules.specs.Circuit.{residue, free, highest, levels}
use Rattle.rules.specs.Fill.{bit, filled}
use Rattle.rules.specs.Ask.{asked}
use Rattle.demands.specs.Evening.{Lent, Settles}

-- SETTLING LOSES AND ADDS NOTHING. An assignment satisfies the table with its pins exactly when it satisfies the settled table
-- and agrees with every fixed value and every link.
unfoldable pub agrees : List ℕ → List ℕ → ℕ → Bool
agrees st values v = beq (valued values v) (holds (valued values) (stands st v))

abbrev pub SettlingExact : Type 0
SettlingExact =
    (n : ℕ) (t pins : List ℤ) (r : ℕ) (st : List ℕ) (cs : List (List ℕ)) → Settles n t pins r st cs
    → (values : List ℕ) → satisfies_all (valued values) (pinned t pins) ≡ (satisfies_all (valued values) cs && list_all (agrees st values) (range_with_len 1 n))

-- THE ROUNDS are at least 1 and at most n + 1, also where they end in a contradiction.
abbrev pub RoundsBounded : Type 0
RoundsBounded = (n : ℕ) (t pins : List ℤ) (r : ℕ) (st : List ℕ) (cs : List (List ℕ)) → Settles n t pins r st cs → (1 ≤ r) × (r ≤ n + 1)

abbrev pub RefusalBounded : Type 0
RefusalBounded = (n : ℕ) (t pins : List ℤ) (r : ℕ) → Lent n t pins → outcome n (pinned t pins) ≡ impossible r → (1 ≤ r) × (r ≤ n + 1)

-- A LINK never points to a variable that is fixed or linked.
abbrev pub LinksToRoots : Type 0
LinksToRoots =
    (n : ℕ) (t pins : List ℤ) (r : ℕ) (st : List ℕ) (cs : List (List ℕ)) → Settles n t pins r st cs
    → (v : ℕ) → linked st v ≡ true → root st (var (stands st v)) ≡ true

-- EVERY VARIABLE HAS EXACTLY ONE PART: fixed, linked, gate output or free.
abbrev pub OnePart : Type 0
OnePart =
    (n : ℕ) (t pins : List ℤ) (r : ℕ) (st : List ℕ) (cs : List (List ℕ)) → Settles n t pins r st cs → (v : ℕ) → 1 ≤ v
    → bit (fixed st v) + bit (linked st v) + bit (is_output (taken n cs) v) + bit (free st (taken n cs) v) ≡ 1

-- LEVELS: a gate's is one more than its inputs' highest, so it is above each input's, no ring can be, and the order by level
-- is one in which every input is known; none is above the number of gates.
abbrev pub LevelsRise : Type 0
LevelsRise =
    (n : ℕ) (t pins : List ℤ) (r : ℕ) (st : List ℕ) (cs : List (List ℕ)) → Settles n t pins r st cs
    → (g : Gate) → Memᴰ g (taken n cs)
    → let level : ℕ → ℕ = λ v. get_or (levels n (taken n cs)) v 0 in
    (level g.output ≡ highest (levels n (taken n cs)) g.inputs + 1)
    × ((x : ℕ) → Memᴰ x g.inputs → level (var x) < level g.output)
    × (level g.output ≤ length (taken n cs))

-- NO CLAUSE IS IN TWO PATTERNS of taken gates.
abbrev pub NoneShared : Type 0
NoneShared =
    (n : ℕ) (t pins : List ℤ) (r : ℕ) (st : List ℕ) (cs : List (List ℕ)) → Settles n t pins r st cs
    → (c : List ℕ) → length (filter (λ g. among c g.pattern) (taken n cs)) ≤ 1

-- A GATE'S PATTERN SAYS WHAT THE GATE SAYS: it is satisfied exactly when the output has the kind's value of the inputs.
abbrev pub PatternSays : Type 0
PatternSays =
    (n : ℕ) (t pins : List ℤ) (r : ℕ) (st : List ℕ) (cs : List (List ℕ)) → Settles n t pins r st cs
    → (g : Gate) → Memᴰ g (taken n cs)
    → (a : ℕ → Bool) → satisfies_all a (written_out g) ≡ beq (a g.output) (rule g.kind a g.inputs)

-- DEMAND 2: "each gate written out again as clauses, with the residue, gives back the settled table's set of clauses, none
-- lost and none added"; and what is in the residue is in no gate.
abbrev pub GiveBack : Type 0
GiveBack =
    (n : ℕ) (t pins : List ℤ) (r : ℕ) (st : List ℕ) (cs : List (List ℕ)) → Settles n t pins r st cs → (c : List ℕ)
    → (among c (flat_map written_out (taken n cs) ++ residue (taken n cs) cs) ≡ among c cs)
    × ((among c (flat_map written_out (taken n cs)) && among c (residue (taken n cs) cs)) ≡ false)

-- DEMAND 3, first sentence: "Where the build is accepted, fill in all variables from any choice for the free ones: the result
-- satisfies the table and pins exactly when it satisfies the residue."
abbrev pub FilledSatisfies : Type 0
FilledSatisfies =
    (n : ℕ) (t pins : List ℤ) (r : ℕ) (st : List ℕ) (cs : List (List ℕ)) → Settles n t pins r st cs → (given : List ℕ) → n ≤ length given
    → let plan : ℕ → Bool = valued (filled n st (taken n cs) given) in satisfies_all plan (pinned t pins) ≡ satisfies_all plan (residue (taken n cs) cs)

-- Second sentence: "Every assignment that satisfies them is the one filled in from its own free values." Whatever else is
-- given: "Values given for variables that are not free are ignored."
abbrev pub OwnFilling : Type 0
OwnFilling =
    (n : ℕ) (t pins : List ℤ) (r : ℕ) (st : List ℕ) (cs : List (List ℕ)) → Settles n t pins r st cs
    → (plan : List ℕ) → length plan ≡ n → ((x : ℕ) → Memᴰ x plan → x ≤ 1) → satisfies_all (valued plan) (pinned t pins) ≡ true
    → (given : List ℕ) → n ≤ length given → ((v : ℕ) → free st (taken n cs) v ≡ true → valued given v ≡ valued plan v)
    → filled n st (taken n cs) given ≡ plan

abbrev pub OthersIgnored : Type 0
OthersIgnored =
    (n : ℕ) (t pins : List ℤ) (r : ℕ) (st : List ℕ) (cs : List (List ℕ)) → Settles n t pins r st cs
    → (given other : List ℕ) → n ≤ length given → n ≤ length other → ((v : ℕ) → free st (taken n cs) v ≡ true → valued given v ≡ valued other v)
    → filled n st (taken n cs) given ≡ filled n st (taken n cs) other

-- Third sentence: "Where the build says contradiction, no assignment satisfies them."
abbrev pub NonePossible : Type 0
NonePossible =
    (n : ℕ) (t pins : List ℤ) (r : ℕ) → Lent n t pins → outcome n (pinned t pins) ≡ impossible r → (values : List ℕ) → satisfies_all (valued values) (pinned t pins) ≡ false

-- ASKING: "the answer equals the filled-in place."
abbrev pub AskedIsFilled : Type 0
AskedIsFilled =
    (n : ℕ) (t pins : List ℤ) (r : ℕ) (st : List ℕ) (cs : List (List ℕ)) → Settles n t pins r st cs → (given : List ℕ) → n ≤ length given
    → (v : ℕ) → 1 ≤ v → v ≤ n → asked st (taken n cs) given v ≡ valued (filled n st (taken n cs) given) v
