-- What the checker accepts: exactly the words of well-sorted claims within the limits of the dialect, of kinds that it takes. Assumes nothing.
use mathlib.Core.Path.{◌≡◌, refl, sym, ◌∙◌, ap}
use mathlib.Core.Logic.{◌↔◌}
use mathlib.Core.Bool.{true, false}
use mathlib.Core.List.{List, [], ◌∷◌, ◌++◌, map}
use Prim.Native.Nat.{ℕ, zero, suc, ◌+◌, ◌*◌, ◌<◌}
use native.Mathlib.Omega.{arith}
use borrow.Author.Tests.{lt-ltb}
use lib.IntN.{ℤ, pos}
use Rattle.std.specs.Prelude.{Option, Some, None, is_some, Ok}
use lib.ListN.{length, get_or, take, length-map, get_or-append}
use lib.Seq.{get_or-append-add, get_or-take, length-take-le}
use Rattle.checker.specs.declared.Dialect.{Dialect}
use Rattle.checker.specs.declared.Dialect.TheVariants.{SetClaims}
use Rattle.checker.specs.declared.Shape.{Shape}
use Rattle.checker.specs.declared.Sort.TheVariants.{AFormula}
use Rattle.checker.specs.declared.Row.{Row}
use Rattle.checker.specs.declared.Range.TheVariants.{Sets}
use Rattle.checker.specs.Claim.{Node, unknown, Quantifier, int_q, set_q, count_q, Claim}
use Rattle.checker.specs.Kinds.{number, sort_of, range_of, is_range}
use Rattle.checker.specs.Words.{word, word_at, nodes_in, quantifiers_in, claim_of, fields_of, node_words, nodes_words, quantifier_word, trailer, words_of}
use Rattle.checker.specs.Sorts.{sort, is_set_q, WellSorted, sets}
use Rattle.checker.specs.Search.{count}
use Rattle.checker.specs.Table.{obeys, node_good, root_good, binds_set}
use Rattle.checker.specs.Dialect.{takes_kind, takes_quantifier}
use Rattle.checker.specs.Check.{check_as, check_of, table_at, kind_in, quantifier_kind}
use Rattle.checker.specs.Accepted.{LimitedAs, Limited, Taken, claim_shape}
use Rattle.checker.proofs.Tab.{tab-length}
use Rattle.checker.proofs.Limits.{nodes_most, quantifiers_most, all_of, all_at}
use Rattle.checker.proofs.Words.{nodes_words-length, words-length, root_word, nodes_word, quantifiers_word, mark_word}
use Rattle.checker.proofs.Passed.{accepted_good, good_accepted}
use Rattle.checker.proofs.Rowwise.{range, over_range, Obeys, fits_served}
use Rattle.checker.proofs.Reading.{claim_sorted, same_words, sets_counted, kinds_taken, quantifiers_taken}
use Rattle.checker.proofs.Fitting.{sort_kind, fits_at, counted}
use Rattle.std.proofs.lemmas.Bool.{and_from}

-- ---- accepted words

-- What is known of accepted words: the claim that they are read as.
pub record ClaimedAs (d : Dialect) (ws : List ℤ) (s : Shape) : Type 0 where
  pub words : words_of (claim_of ws) ≡ ws
  pub sorted : WellSorted (claim_of ws)
  pub limited : LimitedAs d (claim_of ws)
  pub taken : Taken d (claim_of ws)
  pub shape : s ≡ claim_shape (claim_of ws)

shape_is : {s t : Shape} → s.nodes ≡ t.nodes → s.quantifiers ≡ t.quantifiers → s.sets ≡ t.sets → s.root ≡ t.root → s ≡ t
shape_is n q m r = λ i. record { nodes = n i; quantifiers = q i; sets = m i; root = r i }

pub accepted_claim_as : (d : Dialect) (ws : List ℤ) (s : Shape) → check_as d ws ≡ Ok s → ClaimedAs d ws s
unfolding claim_of
accepted_claim_as d ws s e =
    let a = accepted_good d ws s e in
    let g = a.0 in
    let n : length (claim_of ws).nodes ≡ nodes_in ws = tab-length _ _ in
    let q : length (claim_of ws).quantifiers ≡ quantifiers_in ws = tab-length _ _ in
    record {
      words = same_words d ws g;
      sorted = claim_sorted d ws g;
      limited = record {
        some_nodes = omega (arith, g.some_nodes);
        few_nodes = omega (arith, g.few_nodes);
        few_quantifiers = omega (arith, g.few_quantifiers);
        few_sets = omega (arith, g.table.few_sets, sets_counted d ws g);
      };
      taken = record { nodes = kinds_taken d ws g; quantifiers = quantifiers_taken d ws g };
      shape = a.1 ∙ shape_is (sym n) (sym q) (sets_counted d ws g) refl;
    }

-- ---- the words of a claim

three_at : (ns : List Node) (rest : List ℤ) (i : ℕ) → i < length ns → (j : ℕ) → j < 3
    → word (nodes_words ns ++ rest) (3 * i + j) ≡ word (node_words (get_or ns i unknown)) j
unfolding nodes_words node_words
three_at [] rest i h j l = absurd (omega arith)
three_at (n ∷ ns) rest zero h zero l = refl
three_at (n ∷ ns) rest zero h (suc zero) l = refl
three_at (n ∷ ns) rest zero h (suc (suc zero)) l = refl
three_at (n ∷ ns) rest zero h (suc (suc (suc j))) l = absurd (omega arith)
three_at (n ∷ ns) rest (suc i) h j l =
    let e : 3 * suc i + j ≡ suc (suc (suc (3 * i + j))) = omega arith in
    rw e (three_at ns rest i (omega arith) j l)

module _ (d : Dialect) (c : Claim) where
  abbrev ws : List ℤ
  ws = words_of c

  abbrev n : ℕ
  n = length c.nodes

  abbrev q : ℕ
  q = length c.quantifiers

  abbrev at : ℕ → Node
  at i = get_or c.nodes i unknown

  field : (i : ℕ) → i < n → (j : ℕ) → j < 3 → word ws (3 * i + j) ≡ word (node_words (at i)) j
  unfolding words_of
  field i h j l = three_at c.nodes (map quantifier_word c.quantifiers ++ trailer c) i h j l

  kind_at : (i : ℕ) → i < n → kind_in ws i ≡ (fields_of (at i)).kind
  unfolding word_at number node_words
  kind_at i h = let e : 3 * i ≡ 3 * i + 0 = omega arith in ap (λ k. number (word ws k)) e ∙ ap number (field i h 0 (omega arith))

  a_at : (i : ℕ) → i < n → word_at ws (3 * i + 1) ≡ number (fields_of (at i)).a
  unfolding word_at node_words
  a_at i h = ap number (field i h 1 (omega arith))

  b_at : (i : ℕ) → i < n → word_at ws (3 * i + 2) ≡ number (fields_of (at i)).b
  unfolding word_at node_words
  b_at i h = ap number (field i h 2 (omega arith))

  quantifier_at_lem : (i : ℕ) → i < q → word ws (3 * n + i) ≡ quantifier_word (get_or c.quantifiers i (int_q true))
  unfolding words_of
  quantifier_at_lem i h =
      ap (λ k. word ws (k + i)) (sym (nodes_words-length c.nodes))
      ∙ get_or-append-add (nodes_words c.nodes) (map quantifier_word c.quantifiers ++ trailer c) i (pos 0)
      ∙ get_or-append (map quantifier_word c.quantifiers) (trailer c) (pos 0) i (rw (length-map c.quantifiers quantifier_word) h)
      ∙ mapped c.quantifiers i h
    where
      mapped : (qs : List Quantifier) (i : ℕ) → i < length qs → get_or (map quantifier_word qs) i (pos 0) ≡ quantifier_word (get_or qs i (int_q true))
      mapped [] i h = absurd (omega arith)
      mapped (x ∷ qs) zero h = refl
      mapped (x ∷ qs) (suc i) h = mapped qs i (omega arith)

  word_range : (x : Quantifier) → range_of (number (quantifier_word x)) ≡ Some (range (is_set_q x))
  unfolding range_of number
  word_range (int_q true) = refl
  word_range (int_q false) = refl
  word_range (set_q true) = refl
  word_range (set_q false) = refl
  word_range (count_q true) = refl
  word_range (count_q false) = refl

  range_at : (i : ℕ) → i < q → range_of (quantifier_kind ws n i) ≡ Some (range (is_set_q (get_or c.quantifiers i (int_q true))))
  unfolding word_at
  range_at i h = ap (λ z. range_of (number z)) (quantifier_at_lem i h) ∙ word_range (get_or c.quantifiers i (int_q true))

  sets_in_lem : count (binds_set (table_at ws n q)) q ≡ sets c.quantifiers
  sets_in_lem =
      counted (binds_set (table_at ws n q)) c.quantifiers
      (λ i h. ap (is_range Sets) (range_at i h) ∙ over_range (is_set_q (get_or c.quantifiers i (int_q true))))

  module _ (limited : LimitedAs d c) (taken : Taken d c) (sorted : WellSorted c) where
    obeyed : (i : ℕ) → i < n → (row : Option Row)
        → Obeys c.quantifiers (take i c.nodes) (kind_in ws) (quantifier_kind ws n) row (fields_of (at i)).a (fields_of (at i)).b → obeys (table_at ws n q) i row ≡ true
    obeyed i h None o = absurd o
    obeyed i h (Some row) o =
        let l : length (take i c.nodes) ≡ i = length-take-le i c.nodes (omega arith) in
        rw (a_at i h, b_at i h) (and_from _ _ (rw l at o.0) (rw l at o.1))

    node_passes : (i : ℕ) → i < n → node_good (table_at ws n q) i ≡ true
    node_passes i h =
        let l : length (take i c.nodes) ≡ i = length-take-le i c.nodes (omega arith) in
        let f = fits_served c.quantifiers (take i c.nodes) (kind_in ws) (quantifier_kind ws n)
        (omega (arith, limited.few_nodes, nodes_most d)) (omega (arith, limited.few_quantifiers, quantifiers_most d))
        (λ v k. let m : v < i = omega arith in
        ap sort (get_or-take i c.nodes v unknown m) ∙ sort_kind (at v) ∙ ap sort_of (sym (kind_at v (omega arith)))) range_at
        (at i) (fits_at c.quantifiers c.nodes sorted.0 i h) in
        rw (kind_at i h) (obeyed i h _ f)

    kind_passes : (i : ℕ) → i < n → takes_kind d (kind_in ws i) ≡ true
    kind_passes i h = ap (takes_kind d) (kind_at i h) ∙ all_at (λ x. takes_kind d (fields_of x).kind) c.nodes taken.nodes unknown i h

    quantifier_passes : (i : ℕ) → i < q → takes_quantifier d (quantifier_kind ws n i) ≡ true
    unfolding word_at
    quantifier_passes i h =
        ap (λ z. takes_quantifier d (number z)) (quantifier_at_lem i h)
        ∙ all_at (λ x. takes_quantifier d (number (quantifier_word x))) c.quantifiers taken.quantifiers (int_q true) i h

    root_passes : root_good (table_at ws n q) ≡ true
    root_passes =
        let h : c.root < n = sorted.1.0 in
        let s : sort_of (kind_in ws c.root) ≡ Some AFormula = ap sort_of (kind_at c.root h) ∙ sym (sort_kind (at c.root)) ∙ sorted.1.1 in
        rw (root_word c, lt-ltb c.root n h, s)

    -- The words of a well-sorted claim within the limits, of kinds that are taken, are accepted.
    pub claim_accepted_as : check_as d ws ≡ Ok (claim_shape c)
    claim_accepted_as =
        good_accepted d ws n q
        (record {
          marked = mark_word c;
          nodes_are = sym (nodes_word c);
          quantifiers_are = sym (quantifiers_word c);
          some_nodes = limited.some_nodes;
          few_nodes = limited.few_nodes;
          few_quantifiers = limited.few_quantifiers;
          sized = words-length c;
          table = record {
            few_sets = omega (arith, sets_in_lem, limited.few_sets);
            quantifier_taken_lem = quantifier_passes;
            quantifier_known = λ i h. ap is_some (range_at i h);
            kind_taken = kind_passes;
            node_good_lem = node_passes;
            root_good_lem = root_passes;
          };
        })
        ∙ ap Ok (shape_is refl refl sets_in_lem (root_word c))

-- Words are accepted exactly if they are those of such a claim.
pub accepted_exactly_as : (d : Dialect) (ws : List ℤ)
    → ((s : Shape) × (check_as d ws ≡ Ok s)) ↔ ((c : Claim) × (words_of c ≡ ws) × LimitedAs d c × Taken d c × WellSorted c)
accepted_exactly_as d ws = (
  λ (s, e). let a = accepted_claim_as d ws s e in (claim_of ws, a.words, a.limited, a.taken, a.sorted),
  λ (c, e, l, t, s). (claim_shape c, rw (← e) (claim_accepted_as d c l t s)),
)

-- ---- claims over sets: every kind is taken

abbrev pub Claimed : List ℤ → Shape → Type 0
Claimed ws s = ClaimedAs SetClaims ws s

pub accepted_claim : (ws : List ℤ) (s : Shape) → check_of ws ≡ Ok s → Claimed ws s
unfolding check_of
accepted_claim ws s e = accepted_claim_as SetClaims ws s e

pub claim_accepted : (c : Claim) → Limited c → WellSorted c → check_of (words_of c) ≡ Ok (claim_shape c)
unfolding check_of
claim_accepted c l s =
    claim_accepted_as SetClaims c l (record { nodes = all_of _ (λ n. refl) c.nodes; quantifiers = all_of _ (λ q. refl) c.quantifiers }) s

-- Words are accepted exactly if they are those of a well-sorted claim within the limits.
pub accepted_exactly : (ws : List ℤ) → ((s : Shape) × (check_of ws ≡ Ok s)) ↔ ((c : Claim) × (words_of c ≡ ws) × Limited c × WellSorted c)
accepted_exactly ws = (
  λ (s, e). let a = accepted_claim ws s e in (claim_of ws, a.words, a.limited, a.sorted),
  λ (c, e, l, s). (claim_shape c, rw (← e) (claim_accepted c l s)),
)
