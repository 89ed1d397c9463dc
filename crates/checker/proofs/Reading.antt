-- Good words read as a well-sorted claim whose words they are, and whose kinds are those that the dialect takes. Assumes nothing.
use mathlib.Core.Path.{◌≡◌, refl, sym, ◌∙◌, ap, ap₂, subst}
use mathlib.Core.Bool.{true, false≢true}
use mathlib.Core.List.{List, [], ◌∷◌, ◌++◌, map}
use Prim.Native.Nat.{ℕ, zero, suc, ◌+◌, ◌*◌, ◌-◌, ◌≤◌, ◌<◌}
use native.Mathlib.Nat.{add-zero, zero-add, suc-add, add-suc}
use native.Mathlib.Decide.{dec_lt}
use native.Mathlib.Omega.{arith}
use lib.IntN.{ℤ, pos, negsuc}
use lib.ListN.{length, get_or, drop, drop_of_length-le}
use Rattle.std.specs.Prelude.{Option, Some, None, is_some}
use lib.Seq.{drop-cons}
use Rattle.checker.specs.declared.Dialect.{Dialect}
use Rattle.checker.specs.declared.Sort.TheVariants.{AFormula}
use Rattle.checker.specs.declared.Range.TheVariants.{Sets}
use Rattle.checker.specs.declared.Row.{Row}
use Rattle.checker.specs.Claim.{Node, unknown, Quantifier, int_q}
use Rattle.checker.specs.Kinds.{no_number, number, row_of, sort_of, range_of, is_sort, is_range, quantifier_of}
use Rattle.checker.specs.Words.{word, word_at, tab, root_in, nodes_in, quantifiers_in, node_at, quantifier_at, claim_of, fields_of, node_words, nodes_words, quantifier_word, mark, words_of}
use Rattle.checker.specs.Sorts.{sort, is_set_q, Fits, AllFit, WellSorted, sets}
use Rattle.checker.specs.Search.{count}
use Rattle.checker.specs.Dialect.{takes_kind, takes_quantifier}
use Rattle.checker.specs.Table.{Table, field_good, obeys, binds_set}
use Rattle.checker.specs.Check.{table_at, kind_in, quantifier_kind}
use Rattle.checker.specs.Accepted.{KindsTaken, QuantifiersTaken}
use Rattle.checker.proofs.Tab.{tab-length, tab_at, tab-snoc}
use Rattle.checker.proofs.Limits.{nodes_most, quantifiers_most, all_tab}
use Rattle.checker.proofs.Passed.{Good}
use Rattle.checker.proofs.Fitting.{counted}
use Rattle.checker.proofs.Rowwise.{range, over_range, sort_is, looked, Obeys, NodeIs, node_is}
use Rattle.std.proofs.lemmas.Bool.{and_parts}

-- ---- quantifiers

pub range_is : (z : ℤ) → is_some (range_of (number z)) ≡ true → range_of (number z) ≡ Some (range (is_set_q (quantifier_of z)))
unfolding range_of number quantifier_of
range_is (negsuc k) h = absurd (false≢true h)
range_is (pos zero) h = absurd (false≢true h)
range_is (pos (suc zero)) h = refl
range_is (pos (suc (suc zero))) h = refl
range_is (pos (suc (suc (suc zero)))) h = refl
range_is (pos (suc (suc (suc (suc zero))))) h = refl
range_is (pos (suc (suc (suc (suc (suc zero)))))) h = refl
range_is (pos (suc (suc (suc (suc (suc (suc zero))))))) h = refl
range_is (pos (suc (suc (suc (suc (suc (suc (suc k)))))))) h = absurd (false≢true h)

quantifier_back : (z : ℤ) → is_some (range_of (number z)) ≡ true → quantifier_word (quantifier_of z) ≡ z
unfolding range_of number quantifier_of
quantifier_back (negsuc k) h = absurd (false≢true h)
quantifier_back (pos zero) h = absurd (false≢true h)
quantifier_back (pos (suc zero)) h = refl
quantifier_back (pos (suc (suc zero))) h = refl
quantifier_back (pos (suc (suc (suc zero)))) h = refl
quantifier_back (pos (suc (suc (suc (suc zero))))) h = refl
quantifier_back (pos (suc (suc (suc (suc (suc zero)))))) h = refl
quantifier_back (pos (suc (suc (suc (suc (suc (suc zero))))))) h = refl
quantifier_back (pos (suc (suc (suc (suc (suc (suc (suc k)))))))) h = absurd (false≢true h)

is_number : (z : ℤ) (n : ℕ) → number z ≡ n → n < no_number → z ≡ pos n
unfolding number
is_number (pos v) n e l = ap pos e
is_number (negsuc v) n e l = absurd (omega arith)

module _ (d : Dialect) (ws : List ℤ) (good : Good d ws (nodes_in ws) (quantifiers_in ws)) where
  abbrev n : ℕ
  n = nodes_in ws

  abbrev q : ℕ
  q = quantifiers_in ws

  abbrev ns : List Node
  ns = tab n (node_at ws)

  abbrev qs : List Quantifier
  qs = tab q (quantifier_at ws n)

  n_small : n < no_number
  n_small = omega (arith, good.few_nodes, nodes_most d)

  q_small : q < no_number
  q_small = omega (arith, good.few_quantifiers, quantifiers_most d)

  known : (i : ℕ) → i < q → is_some (range_of (number (word ws (3 * n + i)))) ≡ true
  unfolding word_at
  known i h = good.table.quantifier_known i h

  range_at : (i : ℕ) → i < length qs → range_of (quantifier_kind ws n i) ≡ Some (range (is_set_q (get_or qs i (int_q true))))
  unfolding word_at
  range_at i h =
      let l : i < q = omega (arith, tab-length q (quantifier_at ws n)) in
      range_is (word ws (3 * n + i)) (known i l) ∙ ap (λ x. Some (range (is_set_q x))) (sym (tab_at q (quantifier_at ws n) (int_q true) i l))

  -- ---- nodes

  served : (i : ℕ) (row : Option Row) → obeys (table_at ws n q) i row ≡ true
      → Obeys qs (tab i (node_at ws)) (kind_in ws) (quantifier_kind ws n) row (word ws (3 * i + 1)) (word ws (3 * i + 2))
  unfolding word_at
  served i None e = absurd (false≢true e)
  served i (Some row) e =
      let t : Table = table_at ws n q in
      rw (tab-length i (node_at ws), tab-length q (quantifier_at ws n)) (and_parts (field_good t i row.a (t.a i)) (field_good t i row.b (t.b i)) e)

  abbrev SortsBelow : ℕ → Type 0
  SortsBelow i = (v : ℕ) → v < i → sort (node_at ws v) ≡ sort_of (kind_in ws v)

  -- node i, where the sorts of those before it are known
  node_at_lem : (i : ℕ) → i < n → SortsBelow i → NodeIs qs (tab i (node_at ws)) (word ws (3 * i)) (word ws (3 * i + 1)) (word ws (3 * i + 2)) (node_at ws i)
  unfolding word_at
  node_at_lem i l sorts =
      node_is qs (tab i (node_at ws)) (kind_in ws) (quantifier_kind ws n)
      (omega (arith, n_small, tab-length i (node_at ws))) (omega (arith, q_small, tab-length q (quantifier_at ws n)))
      (λ v h. let k : v < i = omega (arith, tab-length i (node_at ws)) in ap sort (tab_at i (node_at ws) unknown v k) ∙ sorts v k) range_at
      (word ws (3 * i)) (word ws (3 * i + 1)) (word ws (3 * i + 2)) (served i (row_of (kind_in ws i)) (good.table.node_good_lem i l))

  sorts_upto : (i : ℕ) → i ≤ n → SortsBelow i
  unfolding word_at
  sorts_upto zero l v h = absurd (omega arith)
  sorts_upto (suc i) l v h = go (dec_lt v i) (sorts_upto i (omega arith))
    where
      go : Dec (v < i) → SortsBelow i → sort (node_at ws v) ≡ sort_of (kind_in ws v)
      go (yes d) f = f v d
      go (no d) f = let e : i ≡ v = omega arith in subst (λ v. sort (node_at ws v) ≡ sort_of (kind_in ws v)) e (node_at_lem i (omega arith) f).sort_is

  node_good_lem : (i : ℕ) → i < n → NodeIs qs (tab i (node_at ws)) (word ws (3 * i)) (word ws (3 * i + 1)) (word ws (3 * i + 2)) (node_at ws i)
  node_good_lem i l = node_at_lem i l (sorts_upto i (omega arith))

  fit_tab : (m i : ℕ) → i + m ≤ n → AllFit qs (tab i (node_at ws)) (tab m (λ j. node_at ws (i + j)))
  fit_tab zero i h = tt
  fit_tab (suc m) i h = (
    subst (λ k. Fits qs (tab i (node_at ws)) (node_at ws k)) (sym (add-zero i)) (node_good_lem i (omega arith)).fits,
    subst (λ k. AllFit qs (tab i (node_at ws) ++ node_at ws k ∷ []) (tab m (λ j. node_at ws (i + suc j)))) (sym (add-zero i))
        (subst (λ l. AllFit qs l (tab m (λ j. node_at ws (i + suc j)))) (tab-snoc i (node_at ws))
        (simp (suc-add, ← add-suc) at (fit_tab m (suc i) (omega arith)))),
  )

  root_good_lem : (root_in ws < n) × (sort (node_at ws (root_in ws)) ≡ Some AFormula)
  root_good_lem =
      let u = looked (root_in ws) n (sort_of (kind_in ws (root_in ws))) None (is_sort AFormula) refl good.table.root_good_lem in
      (u.0, sorts_upto n (omega arith) (root_in ws) u.0 ∙ sort_is AFormula _ u.1)

  pub claim_sorted : WellSorted (claim_of ws)
  unfolding claim_of
  claim_sorted = (
    simp zero-add at (fit_tab n 0 (omega arith)),
    (omega (arith, tab-length n (node_at ws), root_good_lem.0), ap sort (tab_at n (node_at ws) unknown (root_in ws) root_good_lem.0) ∙ root_good_lem.1),
  )

  -- ---- the words, part by part from the front

  three_cons : (i : ℕ) → i < n → drop (3 * i) ws ≡ word ws (3 * i) ∷ word ws (3 * i + 1) ∷ word ws (3 * i + 2) ∷ drop (3 * suc i) ws
  three_cons i h =
      let e₁ : suc (3 * i) ≡ 3 * i + 1 = omega arith in
      let e₂ : suc (3 * i + 1) ≡ 3 * i + 2 = omega arith in
      let e₃ : suc (3 * i + 2) ≡ 3 * suc i = omega arith in
      drop-cons ws (3 * i) (pos 0) (omega (arith, good.sized))
      ∙ ap (λ l. word ws (3 * i) ∷ l) (ap (λ k. drop k ws) e₁ ∙ drop-cons ws (3 * i + 1) (pos 0) (omega (arith, good.sized))
      ∙ ap (λ l. word ws (3 * i + 1) ∷ l) (ap (λ k. drop k ws) e₂ ∙ drop-cons ws (3 * i + 2) (pos 0) (omega (arith, good.sized))
      ∙ ap (λ k. word ws (3 * i + 2) ∷ drop k ws) e₃))

  node_words_lem : (m i : ℕ) → i + m ≤ n → nodes_words (tab m (λ j. node_at ws (i + j))) ++ drop (3 * (i + m)) ws ≡ drop (3 * i) ws
  unfolding nodes_words
  node_words_lem zero i h = ap (λ k. drop (3 * k) ws) (add-zero i)
  node_words_lem (suc m) i h =
      let rest : nodes_words (tab m (λ j. node_at ws (i + suc j))) ++ drop (3 * (i + suc m)) ws ≡ drop (3 * suc i) ws =
      simp (suc-add, ← add-suc) at (node_words_lem m (suc i) (omega arith)) in
      ap (λ k. (node_words (node_at ws k) ++ nodes_words (tab m (λ j. node_at ws (i + suc j)))) ++ drop (3 * (i + suc m)) ws) (add-zero i)
      ∙ ap (λ w. (w ++ nodes_words (tab m (λ j. node_at ws (i + suc j)))) ++ drop (3 * (i + suc m)) ws) (node_good_lem i (omega arith)).words
      ∙ ap (λ l. word ws (3 * i) ∷ word ws (3 * i + 1) ∷ word ws (3 * i + 2) ∷ l) rest
      ∙ sym (three_cons i (omega arith))

  quantifier_words_lem : (m i : ℕ) → i + m ≤ q
      → map quantifier_word (tab m (λ j. quantifier_at ws n (i + j))) ++ drop (3 * n + (i + m)) ws ≡ drop (3 * n + i) ws
  quantifier_words_lem zero i h = ap (λ k. drop (3 * n + k) ws) (add-zero i)
  quantifier_words_lem (suc m) i h =
      let rest : map quantifier_word (tab m (λ j. quantifier_at ws n (i + suc j))) ++ drop (3 * n + (i + suc m)) ws ≡ drop (3 * n + suc i) ws =
      simp (suc-add, ← add-suc) at (quantifier_words_lem m (suc i) (omega arith)) in
      let e : suc (3 * n + i) ≡ 3 * n + suc i = omega arith in
      ap₂ (λ k l. quantifier_word (quantifier_at ws n k) ∷ l) (add-zero i) rest
      ∙ ap (λ z. z ∷ drop (3 * n + suc i) ws) (quantifier_back (word ws (3 * n + i)) (known i (omega arith)))
      ∙ sym (drop-cons ws (3 * n + i) (pos 0) (omega (arith, good.sized)) ∙ ap (λ k. word ws (3 * n + i) ∷ drop k ws) e)

  trailer_words_lem : drop (3 * n + q) ws ≡ pos (root_in ws) ∷ pos n ∷ pos q ∷ pos mark ∷ []
  unfolding word_at
  trailer_words_lem =
      let k = 3 * n + q in
      let e₀ : length ws - 4 ≡ k = omega (arith, good.sized) in
      let e₁ : length ws - 3 ≡ suc k = omega (arith, good.sized) in
      let e₂ : length ws - 2 ≡ suc (suc k) = omega (arith, good.sized) in
      let e₃ : length ws - 1 ≡ suc (suc (suc k)) = omega (arith, good.sized) in
      drop-cons ws k (pos 0) (omega (arith, good.sized))
      ∙ ap₂ (λ x l. x ∷ l) (ap (word ws) (sym e₀) ∙ is_number _ (root_in ws) refl (omega (arith, n_small, root_good_lem.0)))
      (drop-cons ws (suc k) (pos 0) (omega (arith, good.sized))
      ∙ ap₂ (λ x l. x ∷ l) (ap (word ws) (sym e₁) ∙ is_number _ n refl n_small)
      (drop-cons ws (suc (suc k)) (pos 0) (omega (arith, good.sized))
      ∙ ap₂ (λ x l. x ∷ l) (ap (word ws) (sym e₂) ∙ is_number _ q refl q_small)
      (drop-cons ws (suc (suc (suc k))) (pos 0) (omega (arith, good.sized))
      ∙ ap₂ (λ x l. x ∷ l) (ap (word ws) (sym e₃) ∙ is_number _ mark good.marked (omega arith))
      (drop_of_length-le ws {i = suc (suc (suc (suc k)))} (omega (arith, good.sized))))))

  pub same_words : words_of (claim_of ws) ≡ ws
  unfolding words_of claim_of
  same_words =
      ap₂ (λ x y. nodes_words ns ++ (map quantifier_word qs ++ pos (root_in ws) ∷ pos x ∷ pos y ∷ pos mark ∷ [])) (tab-length n (node_at ws))
      (tab-length q (quantifier_at ws n))
      ∙ ap (λ l. nodes_words ns ++ (map quantifier_word qs ++ l)) (sym trailer_words_lem)
      ∙ ap (λ l. nodes_words ns ++ l) (quantifiers_all ∙ ap (λ k. drop k ws) (add-zero (3 * n)))
      ∙ nodes_all
    where
      quantifiers_all : map quantifier_word qs ++ drop (3 * n + q) ws ≡ drop (3 * n + 0) ws
      quantifiers_all = simp zero-add at (quantifier_words_lem q 0 (omega arith))

      nodes_all : nodes_words ns ++ drop (3 * n) ws ≡ ws
      nodes_all = simp zero-add at (node_words_lem n 0 (omega arith))

  pub sets_counted : count (binds_set (table_at ws n q)) q ≡ sets (claim_of ws).quantifiers
  unfolding claim_of
  sets_counted =
      ap (count (binds_set (table_at ws n q))) (sym (tab-length q (quantifier_at ws n)))
      ∙ counted (binds_set (table_at ws n q)) qs (λ i h. ap (is_range Sets) (range_at i h) ∙ over_range (is_set_q (get_or qs i (int_q true))))

  -- ---- the kinds

  pub kinds_taken : KindsTaken d (claim_of ws).nodes
  unfolding claim_of word_at node_words number
  kinds_taken =
      all_tab (λ x. takes_kind d (fields_of x).kind) n (node_at ws)
      (λ i h. ap (λ l. takes_kind d (number (word l 0))) (node_good_lem i h).words ∙ good.table.kind_taken i h)

  pub quantifiers_taken : QuantifiersTaken d (claim_of ws).quantifiers
  unfolding claim_of word_at
  quantifiers_taken =
      all_tab (λ x. takes_quantifier d (number (quantifier_word x))) q (quantifier_at ws n)
      (λ i h. ap (λ z. takes_quantifier d (number z)) (quantifier_back (word ws (3 * n + i)) (known i h)) ∙ good.table.quantifier_taken_lem i h)
