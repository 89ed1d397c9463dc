-- A text taken apart into a claim. Every text gives one; only bytes that tell two forms apart are looked at, and all others are passed over. So what
-- a text gives says nothing until the claim's own text is held against it (`Reading`). Assumes nothing.
use Rattle.std.specs.Prelude.{Bool, cond, ◌||◌, List, [], ◌∷◌, ℕ, zero, suc, ◌+◌, ◌*◌, ◌-◌, leb, eqb, pos, neg_ℤ, length, get_or, drop}
use Prim.Native.Char.{Char, code}
use Prim.Native.String.{String}
use Rattle.checker.specs.Claim.{Node, num_var, const, maxc, sum, diff, multiple, equal, less, divided, conj, disj, neg, Quantifier, int_q, count_q, Claim}
use Rattle.decimal.specs.Reading.{digit}
use Rattle.sentence.specs.Bytes.{bytes}
use Rattle.sentence.specs.Lines.{opening}

-- ---- bytes

-- byte i is this character; past the end there is none
abbrev pub is : ℕ → Char → List ℕ → Bool
is i c bs = eqb (get_or bs i 0) (code c)

-- what follows as many bytes as the text s has
abbrev pub past : String → List ℕ → List ℕ
past s bs = drop (length (bytes s)) bs

-- what was found at the front of a text, and what follows it
pub record Found (A : Type 0) : Type 0 where
  pub value : A
  pub rest : List ℕ

abbrev pub found : {A : Type 0} → A → List ℕ → Found A
found v bs = record { value = v; rest = bs }

-- one thing, and more that was found behind it
abbrev pub before : {A : Type 0} → Found A → Found (List A) → Found (List A)
before x xs = found (x.value ∷ xs.value) xs.rest

-- How many nodes and quantifiers are taken, and the largest number.
pub record Limits : Type 0 where
  pub nodes : ℕ
  pub quantifiers : ℕ
  pub number : ℕ

-- ---- numbers

module _ (most : ℕ) where
  -- the number that a further digit makes of n; one that is over the limit stays as it is
  abbrev pub grown : ℕ → ℕ → ℕ
  grown n d = cond (leb n most) (10 * n + d) n

  -- the number that a text begins with, after digits that say n
  unfoldable pub number_from : ℕ → List ℕ → Found ℕ
  number_from n [] = found n []
  number_from n (b ∷ bs) = cond (digit b) (number_from (grown n (b - 48)) bs) (found n (b ∷ bs))

  -- ---- expressions

  -- the node made of a number, and the bytes after it
  unfoldable pub one_from : (ℕ → Node) → String → List ℕ → Found Node
  one_from f after bs =
      let x = number_from 0 bs in
      found (f x.value) (past after x.rest)

  -- the node made of two numbers, with bytes between and after them
  unfoldable pub two_from : (ℕ → ℕ → Node) → String → String → List ℕ → Found Node
  two_from f between after bs =
      let x = number_from 0 bs in
      let y = number_from 0 (past between x.rest) in
      found (f x.value y.value) (past after y.rest)

  unfoldable pub minus_from : List ℕ → Found Node
  minus_from bs = cond (is 3 "n" bs) (two_from diff " n" ")" (past "(- n" bs)) (one_from (λ c. const (neg_ℤ (pos c))) ")" (past "(- " bs))

  unfoldable pub times_from : List ℕ → Found Node
  times_from bs =
      cond (is 3 "(" bs) (two_from (λ c b. multiple (neg_ℤ (pos c)) b) ") n" ")" (past "(* (- " bs))
      (two_from (λ c b. multiple (pos c) b) " n" ")" (past "(* " bs))

  unfoldable pub equal_from : List ℕ → Found Node
  equal_from bs =
      cond (is 3 "n" bs) (two_from equal " n" ")" (past "(= n" bs))
      (cond (is 3 "0" bs) (two_from (λ b c. divided (neg_ℤ (pos c)) b) " " "))" (past "(= 0 (mod n" bs))
      (two_from (λ b c. divided (pos c) b) " " ") 0)" (past "(= (mod n" bs)))

  unfoldable pub and_from : List ℕ → Found Node
  and_from bs = cond (is 5 "n" bs) (two_from conj " n" ")" (past "(and n" bs)) (one_from (divided (pos 0)) " 0))" (past "(and false (= n" bs))

  unfoldable pub bracket_from : List ℕ → Found Node
  bracket_from bs =
      cond (is 1 "+" bs) (two_from sum " n" ")" (past "(+ n" bs))
      (cond (is 1 "-" bs) (minus_from bs)
      (cond (is 1 "*" bs) (times_from bs)
      (cond (is 1 "=" bs) (equal_from bs)
      (cond (is 1 "<" bs) (two_from less " n" ")" (past "(< n" bs))
      (cond (is 1 "a" bs) (and_from bs)
      (cond (is 1 "o" bs) (two_from disj " n" ")" (past "(or n" bs)) (one_from neg ")" (past "(not n" bs))))))))

  unfoldable pub expr_from : List ℕ → Found Node
  expr_from bs =
      cond (is 0 "(" bs) (bracket_from bs)
      (cond (is 0 "q" bs) (one_from num_var "" (past "q" bs))
      (cond (is 0 "M" bs) (found maxc (past "MAXC" bs)) (one_from (λ c. const (pos c)) "" bs)))

  -- ---- lines

  unfoldable pub line_from : List ℕ → Found Node
  line_from bs =
      let e = expr_from (past " " (number_from 0 (past "(let ((n" bs)).rest) in
      found e.value (past "))\n" e.rest)

  -- the nodes of at most so many lines
  unfoldable pub nodes_from : ℕ → List ℕ → Found (List Node)
  nodes_from zero bs = found [] bs
  nodes_from (suc room) bs =
      cond (is 0 "(" bs)
      (let n = line_from bs in
      before n (nodes_from room n.rest)) (found [] bs)

  -- the line of a quantifier; that of a for-all is as long
  unfoldable pub after_quantify : List ℕ → List ℕ
  after_quantify bs = past " Int))\n" (number_from 0 (past "(exists ((q" bs)).rest

  unfoldable pub after_guard : Bool → List ℕ → List ℕ
  after_guard some bs = past " 0)\n" (number_from 0 (cond some (past "(and (>= q" bs) (past "(=> (>= q" bs))).rest

  unfoldable pub quantifier_from : List ℕ → Found Quantifier
  quantifier_from bs =
      let some = is 1 "e" bs in
      let next = after_quantify bs in
      cond (is 1 "a" next || is 1 "=" next) (found (count_q some) (after_guard some next)) (found (int_q some) next)

  -- at most so many quantifiers
  unfoldable pub quantifiers_from : ℕ → List ℕ → Found (List Quantifier)
  quantifiers_from zero bs = found [] bs
  quantifiers_from (suc room) bs =
      cond (is 1 "e" bs || is 1 "f" bs)
      (let q = quantifier_from bs in
      before q (quantifiers_from room q.rest)) (found [] bs)

-- ---- the whole text

unfoldable pub scan : Limits → List ℕ → Claim
scan most text =
    let qs = quantifiers_from most.number most.quantifiers (drop (length opening) text) in
    let ns = nodes_from most.number most.nodes qs.rest in
    record { nodes = ns.value; quantifiers = qs.value; root = (number_from most.number 0 (past "n" ns.rest)).value }
