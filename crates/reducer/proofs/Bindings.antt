-- The quantifiers' values: those of the claim over region counts, and those of its emission.
-- Assumes nothing.
use mathlib.Core.Path.{◌≡◌, refl, sym, ◌∙◌, ap, ap₂, fun_ext}
use mathlib.Core.Bool.{Bool, true, false, false≢true}
use mathlib.Core.List.{List, [], ◌∷◌, ◌++◌, map, append_assoc, append-nil, map-append, map-map}
use Prim.Native.Nat.{ℕ, zero, suc, ◌+◌, ◌*◌, ◌<◌}
use native.Mathlib.Omega.{arith}
use lib.IntN.{ℤ, pos, ◌+ℤ◌}
use lib.ListN.{length, get_or, length-append, replicate, length-map, get_or-map}
use lib.Seq.{get_or_at, get_or-append-add}
use Rattle.checker.specs.Claim.{Quantifier, int_q, set_q, count_q}
use Rattle.checker.specs.Sorts.{is_set_q, Binds, sets}
use Rattle.checker.specs.Meaning.{Value, as_set, as_num, set_at, num_at, eq_z, World, set, num, truth}
use Rattle.region.specs.Regions.{half, odd, dbl, Split, over}
use Rattle.region.specs.Counting.{pull, grow}
use Rattle.region.proofs.Regions.{dbl_is, split_doubles, split_total}
use Rattle.emission.specs.Emission.{Frame, none, halved, start, with_number, with_set, becomes, emit_quantifiers, counts}
use Rattle.reducer.proofs.Lists.{new_at, old_at, at_each}
use Rattle.reducer.proofs.Ends.{no_value, amount, num_at_lem, num_below}
use Rattle.reducer.proofs.Runs.{meets}
use Rattle.reducer.proofs.Kept.{Final}
use Rattle.reducer.proofs.Bodies.{held}
use Rattle.reducer.proofs.Splits.{every_same, sums, splits}

-- the emission's quantifiers bind no sets
sets_row : (m : ℕ) (some : Bool) (qs : List Quantifier) → sets (replicate m (count_q some) ++ qs) ≡ sets qs
unfolding sets
sets_row zero some qs = refl
sets_row (suc m) some qs = sets_row m some qs

pub no_sets_emit : (qs : List Quantifier) (f : Frame) → sets (emit_quantifiers f qs) ≡ 0
unfolding emit_quantifiers becomes sets
no_sets_emit [] f = refl
no_sets_emit (int_q some ∷ qs) f = no_sets_emit qs (with_number f)
no_sets_emit (set_q some ∷ qs) f = sets_row (dbl f.regions) some (emit_quantifiers (with_set f) qs) ∙ no_sets_emit qs (with_set f)
no_sets_emit (count_q some ∷ qs) f = no_sets_emit qs (with_number f)

-- counts as values
abbrev pub counts_of : List ℕ → List Value
counts_of ls = map (λ k. num (pos k)) ls

-- The quantifiers `done` are bound: `us` are the emission's values, `vs` the claim's, and cs the region counts. `more` are values to come.
pub record Bound (w : World) (done : List Quantifier) (f : Frame) (us vs : List Value) (cs : List ℕ) : Type 0 where
  pub long : length cs ≡ f.regions
  pub some : 0 < f.regions
  pub next : length us ≡ f.next
  pub all : over (λ i. true) cs ≡ w.size
  pub amounts : (more : List Value) (r : ℕ) → r < f.regions → amount w (us ++ more) f.place r ≡ pos (get_or cs r 0)
  pub covers : map as_set vs ≡ f.covers
  pub values_long : length vs ≡ length done
  pub numbers_long : length f.numbers ≡ length done
  pub numbers : (q : ℕ) → Binds false done q → (more : List Value) → num_at (us ++ more) (get_or f.numbers q 0) ≡ num_at vs q

pub bound_start : (w : World) → Bound w [] start [] [] (w.size ∷ [])
unfolding start over amount
bound_start w =
    record {
      long = refl;
      some = omega arith;
      next = refl;
      all = omega arith;
      amounts = λ more r h. go r h;
      covers = refl;
      values_long = refl;
      numbers_long = refl;
      numbers = λ q h. absurd (omega (arith, h.0));
    }
  where
    go : (r : ℕ) → r < 1 → pos w.size ≡ pos (get_or (w.size ∷ []) r 0)
    go zero h = refl
    go (suc r) h = absurd (omega arith)

-- a quantifier among one more
binds_old : {t : Bool} (done : List Quantifier) (q : Quantifier) (i : ℕ) → i < length done → Binds t (done ++ q ∷ []) i → Binds t done i
binds_old done q i l (h, e) = (l, ap is_set_q (sym (old_at done (q ∷ []) (int_q true) i l)) ∙ e)

binds_new : {t : Bool} (done : List Quantifier) (q : Quantifier) (i : ℕ) → i ≡ length done → Binds t (done ++ q ∷ []) i → is_set_q q ≡ t
binds_new done q i l (h, e) = ap is_set_q (sym (new_at done q (int_q true) i l)) ∙ e

module _ (w : World) (done : List Quantifier) (f : Frame) (us vs : List Value) (cs : List ℕ) (b : Bound w done f us vs cs) where
  -- as many numbers as quantifiers, also with one more
  number_there : (q : Quantifier) (i : ℕ) → i < length (done ++ q ∷ []) → i < length (f.numbers ++ f.next ∷ [])
  number_there q i l = simp length-append (omega (arith, b.numbers_long, length-append done (q ∷ [])))

  pub bound_number : (q : Quantifier) (k : ℤ) → Bound w (done ++ q ∷ []) (with_number f) (us ++ num k ∷ []) (vs ++ num k ∷ []) cs
  unfolding with_number
  bound_number q k =
      record {
        long = b.long;
        some = b.some;
        next = simp length-append (omega (arith, b.next));
        all = b.all;
        amounts = λ more r h. rw append_assoc (b.amounts (num k ∷ more) r h);
        covers = map-append as_set vs (num k ∷ []) ∙ ap (λ l. l ++ none ∷ []) b.covers;
        values_long = simp length-append (omega (arith, b.values_long));
        numbers_long = simp length-append (omega (arith, b.numbers_long));
        numbers = λ i h more. rw (append_assoc us (num k ∷ []) more) (
            at_each (λ i y. Binds false (done ++ q ∷ []) i → num_at (us ++ num k ∷ more) y ≡ num_at (vs ++ num k ∷ []) i) f.numbers f.next 0
            (earlier more) (latest more) i (number_there q i h.0) h);
      }
    where
      earlier : (more : List Value) (i : ℕ) → i < length f.numbers → Binds false (done ++ q ∷ []) i
          → num_at (us ++ num k ∷ more) (get_or f.numbers i 0) ≡ num_at (vs ++ num k ∷ []) i
      earlier more i l h =
          b.numbers i (binds_old done q i (omega (arith, b.numbers_long)) h) (num k ∷ more)
          ∙ sym (num_below vs (num k ∷ []) i (omega (arith, b.numbers_long, b.values_long)))

      latest : (more : List Value) → Binds false (done ++ q ∷ []) (length f.numbers)
          → num_at (us ++ num k ∷ more) f.next ≡ num_at (vs ++ num k ∷ []) (length f.numbers)
      latest more h =
          num_at_lem _ _ k (get_or_at us (num k) more no_value f.next b.next)
          ∙ sym (num_at_lem (vs ++ num k ∷ []) _ k (new_at vs (num k) no_value _ (b.numbers_long ∙ sym b.values_long)))

  -- the emission's values of one more set
  count_at : (ls : List ℕ) (more : List Value) (r : ℕ) → r < length ls → num_at ((us ++ counts_of ls) ++ more) (f.next + r) ≡ pos (get_or ls r 0)
  count_at ls more r h =
      num_at_lem _ _ _ (
      old_at (us ++ counts_of ls) more no_value (f.next + r) (omega (arith, length-append us (counts_of ls), length-map ls (λ k. num (pos k)), b.next))
      ∙ ap (λ i. get_or (us ++ counts_of ls) (i + r) no_value) (sym b.next)
      ∙ get_or-append-add us (counts_of ls) r no_value
      ∙ counts_get_d ls r h)
    where
      counts_get_d : (ls : List ℕ) (r : ℕ) → r < length ls → get_or (counts_of ls) r no_value ≡ num (pos (get_or ls r 0))
      counts_get_d [] r h = absurd (omega arith)
      counts_get_d (l ∷ ls) zero h = refl
      counts_get_d (l ∷ ls) (suc r) h = counts_get_d ls r (omega arith)

  pub bound_set : (q : Quantifier) → is_set_q q ≡ true → (ls : List ℕ) → Split cs ls → Bound w (done ++ q ∷ []) (with_set f) (us ++ counts_of ls) (grow vs) ls
  unfolding with_set grow amount num_at
  bound_set q set? ls s =
      record {
        long = long';
        some = omega (arith, b.some, dbl_is f.regions);
        next = simp (length-append, length-map) (omega (arith, b.next, long'));
        all = split_total cs ls s ∙ b.all;
        amounts = λ more r h. count_at ls more r (omega (arith, long'));
        covers = map-append as_set (map (pull half) vs) (set odd ∷ []) ∙ ap (λ l. l ++ odd ∷ []) halves;
        values_long = simp (length-append, length-map) (omega (arith, b.values_long));
        numbers_long = simp length-append (omega (arith, b.numbers_long));
        numbers = λ i h more. rw (append_assoc us (counts_of ls) more) (
            at_each (λ i y. Binds false (done ++ q ∷ []) i → num_at (us ++ (counts_of ls ++ more)) y ≡ num_at (map (pull half) vs ++ set odd ∷ []) i)
            f.numbers f.next 0 (earlier more) latest i (number_there q i h.0) h);
      }
    where
      long' : length ls ≡ dbl f.regions
      long' = split_doubles cs ls s ∙ ap dbl b.long

      half_set : (v : Value) → as_set (pull half v) ≡ halved (as_set v)
      half_set (set a) = refl
      half_set (num k) = refl
      half_set (truth t) = refl

      halves : map as_set (map (pull half) vs) ≡ map halved f.covers
      halves =
          map-map as_set (pull half) vs ∙ ap (λ g. map g vs) (fun_ext half_set) ∙ sym (map-map halved as_set vs) ∙ ap (map halved) b.covers

      half_num : (v : Value) → as_num (pull half v) ≡ as_num v
      half_num (set a) = refl
      half_num (num k) = refl
      half_num (truth t) = refl

      kept : (i : ℕ) → i < length vs → num_at (map (pull half) vs ++ set odd ∷ []) i ≡ num_at vs i
      kept i l =
          num_below (map (pull half) vs) (set odd ∷ []) i (simp length-map l)
          ∙ ap as_num (get_or-map (pull half) vs i no_value) ∙ half_num (get_or vs i no_value)

      earlier : (more : List Value) (i : ℕ) → i < length f.numbers → Binds false (done ++ q ∷ []) i
          → num_at (us ++ (counts_of ls ++ more)) (get_or f.numbers i 0) ≡ num_at (map (pull half) vs ++ set odd ∷ []) i
      earlier more i l h =
          b.numbers i (binds_old done q i (omega (arith, b.numbers_long)) h) (counts_of ls ++ more)
          ∙ sym (kept i (omega (arith, b.numbers_long, b.values_long)))

      latest : {y z : ℤ} → Binds false (done ++ q ∷ []) (length f.numbers) → y ≡ z
      latest h = absurd (false≢true (sym (binds_new done q _ b.numbers_long h) ∙ set?))

  -- the constraint of one more set
  pub held_is : (ls : List ℕ) → length ls ≡ dbl f.regions → (more : List Value) → held w ((us ++ counts_of ls) ++ more) f ≡ splits f.regions cs ls
  unfolding held splits sums meets amount
  held_is ls l more = every_same f.regions _ (sums cs ls) same
    where
      same : (i : ℕ) → i < f.regions → meets w ((us ++ counts_of ls) ++ more) f.place (counts f.next) i ≡ sums cs ls i
      same i h =
          ap₂ eq_z (rw (← append_assoc us (counts_of ls) more) at (b.amounts (counts_of ls ++ more) i h))
          (ap₂ ◌+ℤ◌ (count_at ls more (2 * i) (omega (arith, dbl_is f.regions))) (count_at ls more (2 * i + 1) (omega (arith, dbl_is f.regions))))

  -- all quantifiers are bound
  pub bound_final : Final w done f us vs cs
  unfolding set_at
  bound_final =
      record {
        long = b.long;
        all = b.all;
        amounts = λ r h. rw append-nil at (b.amounts [] r h);
        covers = λ q. sym (get_or-map as_set vs q no_value) ∙ ap (λ l. get_or l q none) b.covers;
        numbers = λ q h. rw append-nil at (b.numbers q h []);
      }
