-- The words of a claim: how many there are, and that they read back as the claim.
-- Assumes nothing.
use mathlib.Core.Path.{◌≡◌, refl, sym, ◌∙◌, ap, ap₂, fun_ext}
use mathlib.Core.Bool.{true, false}
use mathlib.Core.List.{List, [], ◌∷◌, ◌++◌, map, append_assoc}
use Prim.Native.Nat.{ℕ, suc, ◌+◌, ◌*◌, ◌-◌}
use native.Mathlib.Omega.{arith}
use lib.IntN.{ℤ, pos}
use lib.ListN.{length, get_or, length-append, length-map}
use lib.Seq.{get_or-append-add}
use Rattle.checker.specs.Claim.{Node, Quantifier, Claim, set_var, empty, whole, union, inter, compl, num_var, const, maxc, sum, diff, multiple, card, equal, less, divided, set_equal, subset, conj, disj, neg, unknown, int_q, set_q, count_q}
use Rattle.checker.specs.Kinds.{number, node_of, quantifier_of}
use Rattle.checker.specs.Words.{word, word_at, tab, root_in, nodes_in, quantifiers_in, node_at, quantifier_at, claim_of, fields_of, node_words, nodes_words, quantifier_word, mark, trailer, words_of}

-- ---- how many words

pub nodes_words-length : (ns : List Node) → length (nodes_words ns) ≡ 3 * length ns
unfolding nodes_words node_words
nodes_words-length [] = refl
nodes_words-length (n ∷ ns) = simp length-append (omega (arith, nodes_words-length ns))

pub words-length : (c : Claim) → length (words_of c) ≡ 3 * length c.nodes + length c.quantifiers + 4
unfolding words_of
words-length c = simp (length-append, length-map) (omega (arith, nodes_words-length c.nodes))

pub words_append : (xs ys : List Node) → nodes_words (xs ++ ys) ≡ nodes_words xs ++ nodes_words ys
unfolding nodes_words
words_append [] ys = refl
words_append (x ∷ xs) ys = ap (λ l. node_words x ++ l) (words_append xs ys) ∙ sym (append_assoc (node_words x) (nodes_words xs) (nodes_words ys))

-- ---- nodes

node_back : (n : Node) → node_of (pos (fields_of n).kind) (fields_of n).a (fields_of n).b ≡ n
unfolding node_of number
node_back (set_var q) = refl
node_back empty = refl
node_back whole = refl
node_back (union a b) = refl
node_back (inter a b) = refl
node_back (compl a) = refl
node_back (num_var q) = refl
node_back (const c) = refl
node_back maxc = refl
node_back (sum a b) = refl
node_back (diff a b) = refl
node_back (multiple c b) = refl
node_back (card a) = refl
node_back (equal a b) = refl
node_back (less a b) = refl
node_back (divided c b) = refl
node_back (set_equal a b) = refl
node_back (subset a b) = refl
node_back (conj a b) = refl
node_back (disj a b) = refl
node_back (neg a) = refl
node_back unknown = refl

node-suc : (a b c : ℤ) (l : List ℤ) (i : ℕ) → node_at (a ∷ b ∷ c ∷ l) (suc i) ≡ node_at l i
node-suc a b c l i = rw (s0, s1, s2)
  where
    s0 : 3 * suc i ≡ suc (suc (suc (3 * i)))
    s0 = omega arith

    s1 : suc (suc (suc (3 * i))) + 1 ≡ suc (suc (suc (3 * i + 1)))
    s1 = omega arith

    s2 : suc (suc (suc (3 * i))) + 2 ≡ suc (suc (suc (3 * i + 2)))
    s2 = omega arith

nodes_back : (ns : List Node) (rest : List ℤ) → tab (length ns) (node_at (nodes_words ns ++ rest)) ≡ ns
unfolding nodes_words node_words
nodes_back [] rest = refl
nodes_back (n ∷ ns) rest =
    ap₂ (λ x xs. x ∷ xs) (node_back n)
    (ap (tab (length ns)) (fun_ext (node-suc (pos (fields_of n).kind) (fields_of n).a (fields_of n).b (nodes_words ns ++ rest))) ∙ nodes_back ns rest)

-- ---- quantifiers

quantifiers_back : (qs : List Quantifier) (rest : List ℤ) → tab (length qs) (λ i. quantifier_of (get_or (map quantifier_word qs ++ rest) i (pos 0))) ≡ qs
unfolding quantifier_of number
quantifiers_back [] rest = refl
quantifiers_back (q ∷ qs) rest = ap₂ (λ x xs. x ∷ xs) (go q) (quantifiers_back qs rest)
  where
    go : (q : Quantifier) → quantifier_of (quantifier_word q) ≡ q
    go (int_q true) = refl
    go (int_q false) = refl
    go (set_q true) = refl
    go (set_q false) = refl
    go (count_q true) = refl
    go (count_q false) = refl

pub claim_is : {a b : Claim} → a.nodes ≡ b.nodes → a.quantifiers ≡ b.quantifiers → a.root ≡ b.root → a ≡ b
claim_is p q r = λ i. record { nodes = p i; quantifiers = q i; root = r i }

-- ---- the trailer

abbrev ahead : Claim → List ℤ
ahead c = nodes_words c.nodes ++ map quantifier_word c.quantifiers

-- word i of the trailer, j words before the end
pub trailer_word : (c : Claim) (i j : ℕ) → i + j ≡ 4 → word (words_of c) (length (words_of c) - j) ≡ get_or (trailer c) i (pos 0)
unfolding words_of
trailer_word c i j e =
    let same : words_of c ≡ ahead c ++ trailer c = sym (append_assoc (nodes_words c.nodes) (map quantifier_word c.quantifiers) (trailer c)) in
    let h : length (words_of c) - j ≡ length (ahead c) + i = omega (arith, ap length same, length-append (ahead c) (trailer c)) in
    ap₂ (λ l k. get_or l k (pos 0)) same h ∙ get_or-append-add (ahead c) (trailer c) i (pos 0)

pub root_word : (c : Claim) → root_in (words_of c) ≡ c.root
unfolding word_at number
root_word c = ap number (trailer_word c 0 4 refl)

pub nodes_word : (c : Claim) → nodes_in (words_of c) ≡ length c.nodes
unfolding word_at number
nodes_word c = ap number (trailer_word c 1 3 refl)

pub quantifiers_word : (c : Claim) → quantifiers_in (words_of c) ≡ length c.quantifiers
unfolding word_at number
quantifiers_word c = ap number (trailer_word c 2 2 refl)

pub mark_word : (c : Claim) → word_at (words_of c) (length (words_of c) - 1) ≡ mark
unfolding word_at number
mark_word c = ap number (trailer_word c 3 1 refl)

-- ---- the claim

skip_nodes : (c : Claim) (i : ℕ) → word (words_of c) (3 * length c.nodes + i) ≡ get_or (map quantifier_word c.quantifiers ++ trailer c) i (pos 0)
unfolding words_of
skip_nodes c i =
    ap (λ n. word (words_of c) (n + i)) (sym (nodes_words-length c.nodes))
    ∙ get_or-append-add (nodes_words c.nodes) (map quantifier_word c.quantifiers ++ trailer c) i (pos 0)

pub claim_words : (c : Claim) → claim_of (words_of c) ≡ c
unfolding claim_of
claim_words c =
    claim_is
    (ap (λ n. tab n (node_at (words_of c))) (nodes_word c) ∙ (unfold words_of in nodes_back c.nodes (map quantifier_word c.quantifiers ++ trailer c)))
    (ap₂ (λ q n. tab q (quantifier_at (words_of c) n)) (quantifiers_word c) (nodes_word c)
    ∙ ap (tab (length c.quantifiers)) (fun_ext (λ i. ap quantifier_of (skip_nodes c i)))
    ∙ quantifiers_back c.quantifiers (trailer c))
    (root_word c)
