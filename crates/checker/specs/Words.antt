-- A claim and the words that it is stored in (01, "The claim table"): three words a node, one a quantifier, and the trailer.
-- Assumes nothing.
use Rattle.std.specs.Prelude.{true, false, List, [], ◌∷◌, ◌++◌, map, ℕ, zero, suc, ◌+◌, ◌*◌, ◌-◌, ℤ, pos, length, get_or}
use Rattle.checker.specs.Claim.{Node, set_var, empty, whole, union, inter, compl, num_var, const, maxc, sum, diff, multiple, card, equal, less, divided, set_equal, subset, conj, disj, neg, unknown, Quantifier, int_q, set_q, count_q, Claim}
use Rattle.checker.specs.Kinds.{number, node_of, quantifier_of}

-- ---- reading

-- the word at a place, 0 past the end
abbrev pub word : List ℤ → ℕ → ℤ
word ws i = get_or ws i (pos 0)

-- the same as a number, `no_number` if it is negative
unfoldable pub word_at : List ℤ → ℕ → ℕ
word_at ws i = number (word ws i)

-- f 0, f 1, .., f (n - 1)
abbrev pub tab {ℓ} : {A : Type ℓ} → ℕ → (ℕ → A) → List A
tab zero f = []
tab (suc n) f = f zero ∷ tab n (λ i. f (suc i))

-- the trailer's numbers, which stand at the end of the words
abbrev pub root_in : List ℤ → ℕ
root_in ws = word_at ws (length ws - 4)

abbrev pub nodes_in : List ℤ → ℕ
nodes_in ws = word_at ws (length ws - 3)

abbrev pub quantifiers_in : List ℤ → ℕ
quantifiers_in ws = word_at ws (length ws - 2)

abbrev pub node_at : List ℤ → ℕ → Node
node_at ws i = node_of (word ws (3 * i)) (word ws (3 * i + 1)) (word ws (3 * i + 2))

-- quantifier i, where there are n nodes
abbrev pub quantifier_at : List ℤ → ℕ → ℕ → Quantifier
quantifier_at ws n i = quantifier_of (word ws (3 * n + i))

-- The claim that words are read as. Only that of accepted words is looked at.
unfoldable pub claim_of : List ℤ → Claim
claim_of ws =
    record {
      nodes = tab (nodes_in ws) (node_at ws);
      quantifiers = tab (quantifiers_in ws) (quantifier_at ws (nodes_in ws));
      root = root_in ws;
    }

-- ---- writing

-- a node's kind and its words a and b
pub record Fields : Type 0 where
  pub kind : ℕ
  pub a : ℤ
  pub b : ℤ

abbrev pub fields : ℕ → ℤ → ℤ → Fields
fields k x y = record { kind = k; a = x; b = y }

abbrev pub fields_of : Node → Fields
fields_of (set_var q) = fields 1 (pos q) (pos 0)
fields_of empty = fields 2 (pos 0) (pos 0)
fields_of whole = fields 3 (pos 0) (pos 0)
fields_of (union a b) = fields 4 (pos a) (pos b)
fields_of (inter a b) = fields 5 (pos a) (pos b)
fields_of (compl a) = fields 6 (pos a) (pos 0)
fields_of (num_var q) = fields 10 (pos q) (pos 0)
fields_of (const c) = fields 11 c (pos 0)
fields_of maxc = fields 12 (pos 0) (pos 0)
fields_of (sum a b) = fields 13 (pos a) (pos b)
fields_of (diff a b) = fields 14 (pos a) (pos b)
fields_of (multiple c b) = fields 15 c (pos b)
fields_of (card a) = fields 16 (pos a) (pos 0)
fields_of (equal a b) = fields 20 (pos a) (pos b)
fields_of (less a b) = fields 21 (pos a) (pos b)
fields_of (divided c b) = fields 22 c (pos b)
fields_of (set_equal a b) = fields 23 (pos a) (pos b)
fields_of (subset a b) = fields 24 (pos a) (pos b)
fields_of (conj a b) = fields 25 (pos a) (pos b)
fields_of (disj a b) = fields 26 (pos a) (pos b)
fields_of (neg a) = fields 27 (pos a) (pos 0)
fields_of unknown = fields 0 (pos 0) (pos 0)

unfoldable pub node_words : Node → List ℤ
node_words n = pos (fields_of n).kind ∷ (fields_of n).a ∷ (fields_of n).b ∷ []

unfoldable pub nodes_words : List Node → List ℤ
nodes_words [] = []
nodes_words (n ∷ ns) = node_words n ++ nodes_words ns

abbrev pub quantifier_word : Quantifier → ℤ
quantifier_word (int_q true) = pos 1
quantifier_word (int_q false) = pos 2
quantifier_word (set_q true) = pos 3
quantifier_word (set_q false) = pos 4
quantifier_word (count_q true) = pos 5
quantifier_word (count_q false) = pos 6

abbrev pub mark : ℕ
mark = 2005

abbrev pub trailer : Claim → List ℤ
trailer c = pos c.root ∷ pos (length c.nodes) ∷ pos (length c.quantifiers) ∷ pos mark ∷ []

unfoldable pub words_of : Claim → List ℤ
words_of c = nodes_words c.nodes ++ (map quantifier_word c.quantifiers ++ trailer c)
