-- The lines of the nodes and of the quantifiers are read back. Assumes nothing.
use mathlib.Core.Path.{◌≡◌, refl}
use mathlib.Core.Bool.{Bool, true, false, ◌||◌, true≢false}
use mathlib.Core.List.{List, [], ◌∷◌, ◌++◌, append_assoc}
use Prim.Native.Nat.{ℕ, zero, suc, ◌≤◌}
use Prim.Native.Char.{code}
use native.Mathlib.Omega.{arith}
use lib.Dec.{eqb}
use lib.IntN.{nat_abs}
use lib.ListN.{length, get_or}
use Rattle.checker.specs.Claim.{Node, Quantifier, int_q, set_q, count_q}
use Rattle.checker.specs.Words.{fields_of}
use Rattle.checker.specs.Sorts.{is_set_q, sets}
use Rattle.decimal.specs.Reading.{digit}
use Rattle.decimal.specs.Printing.{decimal}
use Rattle.sentence.specs.Bytes.{bytes}
use Rattle.sentence.specs.Smt.{variable}
use Rattle.sentence.specs.Sentences.{expr_of, AllPlain, plain}
use Rattle.sentence.specs.Text.{name_text, expr_text, let_line, quantify_line, guard_line}
use Rattle.sentence.specs.Lines.{node_line, node_lines, count_line, quantifier_line, quantifier_lines}
use Rattle.sentence.specs.Scan.{found, is, line_from, nodes_from, after_quantify, after_guard, quantifier_from, quantifiers_from}
use Rattle.sentence.specs.Reading.{AllWithin}
use Rattle.sentence.proofs.Numbers.{starts_other, number_rest}
use Rattle.sentence.proofs.Expressions.{zero_text, parts, expr_read}

-- ---- the lines of the nodes

-- what follows the nodes' lines: the root, and the rest
abbrev pub root_text : ℕ → List ℕ → List ℕ
root_text r bs = bytes "n" ++ (decimal r ++ (bytes "\n" ++ bs))

line_opens : (i : ℕ) (n : Node) (bs : List ℕ) → is 0 "(" (node_line i n ++ bs) ≡ true
unfolding let_line
line_opens i n bs = refl

module _ (most : ℕ) where
  line_read : (i : ℕ) (n : Node) → plain n ≡ true → nat_abs (fields_of n).a ≤ most → nat_abs (fields_of n).b ≤ most → (bs : List ℕ)
      → line_from most (node_line i n ++ bs) ≡ found n bs
  unfolding line_from let_line name_text
  line_read i n p l m bs =
      rw (parts (decimal i) (bytes " ") (expr_text (expr_of n)) (bytes "))\n") bs, number_rest most i (bytes " " ++ (expr_text (expr_of n) ++ (bytes "))\n" ++ bs))) refl, expr_read most n p l m (bytes ")\n" ++ bs))

  pub nodes_read : (room i : ℕ) (ns : List Node) (r : ℕ) (bs : List ℕ) → AllPlain ns → AllWithin most ns → length ns ≤ room
      → nodes_from most room (node_lines i ns ++ root_text r bs) ≡ found ns (root_text r bs)
  unfolding nodes_from node_lines
  nodes_read zero i [] r bs p w h = refl
  nodes_read zero i (n ∷ ns) r bs p w h = absurd (omega arith)
  nodes_read (suc room) i [] r bs p w h = refl
  nodes_read (suc room) i (n ∷ ns) r bs (p, ps) (l, m, ws) h =
      let next = node_lines (suc i) ns ++ root_text r bs in
      rw (append_assoc (node_line i n) (node_lines (suc i) ns) (root_text r bs), line_opens i n next, line_read i n p l m next, nodes_read room (suc i) ns r bs ps ws (omega arith))

-- ---- the lines of the quantifiers

-- the text behind the quantifiers' lines
abbrev pub nodes_text : List Node → ℕ → List ℕ → List ℕ
nodes_text ns r bs = node_lines 0 ns ++ root_text r bs

-- its second byte is an l or a digit
nodes_second : (x : ℕ) → digit x ≡ false → eqb (code "l") x ≡ false → (ns : List Node) (r : ℕ) (bs : List ℕ) → eqb (get_or (nodes_text ns r bs) 1 0) x ≡ false
unfolding node_lines let_line
nodes_second x d l [] r bs = starts_other x d r (bytes "\n" ++ bs)
nodes_second x d l (n ∷ ns) r bs = l

-- and that of a quantifier's line is an e or an f
second : (x : ℕ) → digit x ≡ false → eqb (code "l") x ≡ false → eqb (code "e") x ≡ false → eqb (code "f") x ≡ false
    → (i : ℕ) (qs : List Quantifier) → sets qs ≡ 0 → (ns : List Node) (r : ℕ) (bs : List ℕ) → eqb (get_or (quantifier_lines i qs ++ nodes_text ns r bs) 1 0) x ≡ false
unfolding quantifier_lines quantifier_line quantify_line sets
second x d l e f i [] h ns r bs = nodes_second x d l ns r bs
second x d l e f i (int_q true ∷ qs) h ns r bs = e
second x d l e f i (int_q false ∷ qs) h ns r bs = f
second x d l e f i (set_q some ∷ qs) h ns r bs = absurd (omega arith)
second x d l e f i (count_q true ∷ qs) h ns r bs = e
second x d l e f i (count_q false ∷ qs) h ns r bs = f

-- what follows is no guard
abbrev Unguarded : List ℕ → Type 0
Unguarded bs = (is 1 "a" bs || is 1 "=" bs) ≡ false

neither : {a b : Bool} → a ≡ false → b ≡ false → (a || b) ≡ false
neither p q = rw (p, q)

quantify_some : (some : Bool) (i : ℕ) (bs : List ℕ) → is 1 "e" (quantify_line some (variable i) ++ bs) ≡ some
unfolding quantify_line
quantify_some true i bs = refl
quantify_some false i bs = refl

count_guards : (some : Bool) (i : ℕ) (bs : List ℕ) → (is 1 "a" (count_line some i ++ bs) || is 1 "=" (count_line some i ++ bs)) ≡ true
unfolding guard_line
count_guards true i bs = refl
count_guards false i bs = refl

no_set : (q : Quantifier) (qs : List Quantifier) → sets (q ∷ qs) ≡ 0 → (is_set_q q ≡ false) × (sets qs ≡ 0)
unfolding sets
no_set (int_q some) qs h = (refl, h)
no_set (set_q some) qs h = absurd (omega arith)
no_set (count_q some) qs h = (refl, h)

quantifier_opens : (i : ℕ) (q : Quantifier) (bs : List ℕ) → is_set_q q ≡ false → (is 1 "e" (quantifier_line i q ++ bs) || is 1 "f" (quantifier_line i q ++ bs)) ≡ true
unfolding quantifier_line quantify_line
quantifier_opens i (int_q true) bs h = refl
quantifier_opens i (int_q false) bs h = refl
quantifier_opens i (set_q some) bs h = absurd (true≢false h)
quantifier_opens i (count_q true) bs h = refl
quantifier_opens i (count_q false) bs h = refl

module _ (most : ℕ) where
  quantify_rest : (some : Bool) (i : ℕ) (bs : List ℕ) → after_quantify most (quantify_line some (variable i) ++ bs) ≡ bs
  unfolding after_quantify quantify_line name_text
  quantify_rest true i bs = rw (append_assoc (decimal i) (bytes " Int))\n") bs, number_rest most i (bytes " Int))\n" ++ bs) refl)
  quantify_rest false i bs = rw (append_assoc (decimal i) (bytes " Int))\n") bs, number_rest most i (bytes " Int))\n" ++ bs) refl)

  guard_rest : (some : Bool) (i : ℕ) (bs : List ℕ) → after_guard most some (count_line some i ++ bs) ≡ bs
  unfolding after_guard guard_line expr_text name_text
  guard_rest true i bs = rw (zero_text, append_assoc (decimal i) (bytes " 0)") (bytes "\n"), append_assoc (decimal i) (bytes " 0)\n") bs, number_rest most i (bytes " 0)\n" ++ bs) refl)
  guard_rest false i bs = rw (zero_text, append_assoc (decimal i) (bytes " 0)") (bytes "\n"), append_assoc (decimal i) (bytes " 0)\n") bs, number_rest most i (bytes " 0)\n" ++ bs) refl)

  quantifier_read : (i : ℕ) (q : Quantifier) (bs : List ℕ) → is_set_q q ≡ false → Unguarded bs → quantifier_from most (quantifier_line i q ++ bs) ≡ found q bs
  unfolding quantifier_from quantifier_line
  quantifier_read i (int_q some) bs h u = rw (quantify_some some i bs, quantify_rest some i bs, u)
  quantifier_read i (set_q some) bs h u = absurd (true≢false h)
  quantifier_read i (count_q some) bs h u =
      let next = count_line some i ++ bs in
      rw (append_assoc (quantify_line some (variable i)) (count_line some i) bs, quantify_some some i next, quantify_rest some i next, count_guards some i bs, guard_rest some i bs)

  pub quantifiers_read : (room i : ℕ) (qs : List Quantifier) (ns : List Node) (r : ℕ) (bs : List ℕ) → sets qs ≡ 0 → length qs ≤ room
      → quantifiers_from most room (quantifier_lines i qs ++ nodes_text ns r bs) ≡ found qs (nodes_text ns r bs)
  unfolding quantifiers_from quantifier_lines
  quantifiers_read zero i [] ns r bs h l = refl
  quantifiers_read zero i (q ∷ qs) ns r bs h l = absurd (omega arith)
  quantifiers_read (suc room) i [] ns r bs h l = rw (neither (nodes_second (code "e") refl refl ns r bs) (nodes_second (code "f") refl refl ns r bs))
  quantifiers_read (suc room) i (q ∷ qs) ns r bs h l =
      let (p, k) = no_set q qs h in
      let next = quantifier_lines (suc i) qs ++ nodes_text ns r bs in
      let u : Unguarded next =
      neither (second (code "a") refl refl refl refl (suc i) qs k ns r bs) (second (code "=") refl refl refl refl (suc i) qs k ns r bs) in
      rw (append_assoc (quantifier_line i q) (quantifier_lines (suc i) qs) (nodes_text ns r bs), quantifier_opens i q next p, quantifier_read i q next p u, quantifiers_read room (suc i) qs ns r bs k (omega arith))
