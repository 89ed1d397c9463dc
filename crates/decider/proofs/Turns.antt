-- A turn of the loop over the inside counts of split h. Assumes nothing.
use mathlib.Core.Path.{◌≡◌, refl, sym, ap, ◌∙◌}
use mathlib.Core.Bool.{Bool, true, false, not, beq}
use mathlib.Core.List.{List}
use Prim.Native.Nat.{ℕ, ◌+◌, ◌-◌, ◌≤◌, ◌<◌, max}
use native.Mathlib.Omega.{arith}
use lib.IntN.{ℤ}
use lib.ListN.{length, get_or, take}
use Rattle.std.proofs.Common.{Result, Ok, Err}
use Rattle.checker.specs.Words.{claim_of}
use Rattle.matrix.specs.Known.{Known, Kept}
use Rattle.matrix.proofs.Known.{known_kept}
use Rattle.decider.specs.declared.allowance.Allowance.{Allowance}
use Rattle.decider.specs.declared.allowance.Found.{Found}
use Rattle.decider.specs.declared.allowance.Spent.{Spent}
use Rattle.decider.specs.Rule.{stops, tries, split, rule}
use Rattle.decider.specs.Plan.{plan_of}
use Rattle.decider.specs.Answer.{ended, reply}
use Rattle.decider.specs.Standing.{finals}
use Rattle.decider.specs.Setting.{Setting, Settles, Stands, ruling_from}
use Rattle.decider.proofs.Answer.{thereafter, tries_none, tries_more, kept}
use Rattle.decider.proofs.Heap.{next, run, given_is, still, total_more}
use Rattle.decider.proofs.Settling.{known_split}

-- a truth stops a run if it is what the run looks for
stops_beq : (some t : Bool) → stops some t ≡ beq t some
stops_beq true true = refl
stops_beq true false = refl
stops_beq false true = refl
stops_beq false false = refl

-- The inside counts below k are tried, from the counts `start`, the values `before` and the allowance a: the later tries give the reply at h.
pub record Tried (s : Setting) (h known : ℕ) (start : List ℕ) (before : List ℤ) (a : Allowance) (some : Bool) (k : ℕ) (counts : List ℕ) (values : List ℤ) (rest : Allowance) : Type 0 where
  pub stands : take (h + h) counts ≡ take (h + h) start
  pub kept : Kept s.order known before values
  pub paid : rest.left + rest.taken ≡ a.left + a.taken
  pub answers : reply (tries some (next (plan_of (claim_of s.words)) s.regions h start) (get_or start h 0 + 1 - k) k) rest ≡ reply (ruling_from s h start) a

module _ {s : Setting} {h known : ℕ} {start : List ℕ} {before : List ℤ} {a : Allowance} {some : Bool} where
  pub tried_none : Settles s → 0 < h → h < s.regions → get_or s.somes h false ≡ some → Tried s h known start before a some 0 start before a
  tried_none f pos lt e =
      record {
        stands = refl;
        kept = λ k l. refl;
        paid = refl;
        answers = ap (λ r. reply r a) (run (claim_of s.words) s.regions h start pos lt some (sym e ∙ f.quantified h pos lt));
      }

  -- all are tried
  pub tried_all : {k : ℕ} {counts : List ℕ} {values : List ℤ} {rest : Allowance} → Tried s h known start before a some k counts values rest → k ≡ get_or start h 0 + 1
      → ended (not some) rest ≡ reply (ruling_from s h start) a
  tried_all {k} {rest = rest} t e =
      let z : get_or start h 0 + 1 - k ≡ 0 = omega arith in
      tries_none some (next (plan_of (claim_of s.words)) s.regions h start) k rest ∙ rw z at t.answers

  -- k is tried, and the children get their counts `given`
  module _ {k : ℕ} {counts : List ℕ} (given : List ℕ) {values : List ℤ} {rest : Allowance} (t : Tried s h known start before a some k counts values rest)
      (l : k ≤ get_or start h 0) (p : take (h + 1 + (h + 1)) given ≡ split (take (h + h) counts) h k) where
    -- what stands then
    pub stands_below : {first : ℕ} {xs : List ℤ} → Settles s → Stands s h first start xs → h < s.regions → known ≡ max first (get_or s.upto (h + h - s.regions) 0)
        → Known (claim_of s.words) s.size (finals s.regions h start) s.order known before → length given ≡ length start → length values ≡ length xs → Stands s (h + 1) known given values
    stands_below f u lt due shown long wide =
        let room : h + h ≤ length start = omega (arith, u.roomy.0) in
        record {
          place = (omega arith, omega arith);
          total = total_more h start counts given k t.stands p s.size u.place.0 room l u.total;
          few = omega (arith, due, u.few, (f.scheduled (h + h - s.regions) (omega arith)).0);
          shown = known_kept (claim_of s.words) s.size s.order known _ before values t.kept
              (known_split (claim_of s.words) s.size s.order known s.regions h k start given before (given_is h start counts given k t.stands p) shown);
          roomy = (omega (arith, u.roomy.0, long), omega (arith, u.roomy.1, wide));
        }

    -- x is the reply below
    module _ {x : Result Found Spent} (e : x ≡ reply (ruling_from s (h + 1) given) rest) where
      turn : thereafter some x (tries some (next (plan_of (claim_of s.words)) s.regions h start) (get_or start h 0 + 1 - (k + 1)) (k + 1)) ≡ reply (ruling_from s h start) a
      turn =
          let plan = plan_of (claim_of s.words) in
          let try : x ≡ reply (next plan s.regions h start k) rest = e ∙ ap (λ m. reply (rule plan (s.regions - (h + 1)) (h + 1) m) rest) (given_is h start counts given k t.stands p) in
          ap (λ y. thereafter some y (tries some (next plan s.regions h start) (get_or start h 0 + 1 - (k + 1)) (k + 1))) try
          ∙ sym (tries_more some (next plan s.regions h start) (get_or start h 0 + 1) k rest (omega arith)) ∙ t.answers

      pub spent_below : {o : Spent} → x ≡ Err o → Err o ≡ reply (ruling_from s h start) a
      spent_below q = rw q at turn

      pub found_below : {o : Found} → x ≡ Ok o → beq o.truth some ≡ true → Ok o ≡ reply (ruling_from s h start) a
      found_below {o} q w = let r = rw q at turn in rw (stops_beq some o.truth, w) at r

      pub goes_on : {o : Found} {after : List ℕ} {xs : List ℤ} → h + h ≤ length start → x ≡ Ok o → beq o.truth some ≡ false → take (h + 1 + (h + 1)) after ≡ take (h + 1 + (h + 1)) given
          → Kept s.order known values xs → Tried s h known start before a some (k + 1) after xs o.rest
      goes_on {o} {after} room q w m n =
          let r = rw q at turn in
          record {
            stands = still h start counts given k t.stands p room after m;
            kept = λ j u. n j u ∙ t.kept j u;
            paid = kept (ruling_from s (h + 1) given) rest o (sym q ∙ e) ∙ t.paid;
            answers = rw (stops_beq some o.truth, w) at r;
          }
