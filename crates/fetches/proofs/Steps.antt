-- A step of a sweep keeps what is true of it, and brings its measure down. Assumes nothing.
use Prim.Native.Nat.{ℕ, suc, ◌+◌, ◌-◌, ◌*◌, ◌≤◌, ◌<◌, max}
use mathlib.Core.Path.{◌≡◌, sym, subst}
use mathlib.Core.List.{List}
use native.Mathlib.Omega.{arith}
use native.Mathlib.Nat.{mul-le-mul_right, suc-mul}
use borrow.Author.Count.{below_more}
use Rattle.fetches.specs.Sweep.{nth, In, Has, Lacks, Settles, Misses, Swept, Steps}
use Rattle.fetches.specs.declared.Fetch.{Fetch}
use Rattle.fetches.specs.declared.Sweep.{Sweep}
use Rattle.reading.proofs.Cases.{split}

-- among more records too
pub more : {l : List Fetch} {k j x : ℕ} → k ≤ j → Has l k x → Has l j x
more h t = record { which = t.which; among = omega (arith, t.among); within = t.within }

module _ (end n f g i : ℕ) (h : i < n) where
  -- on to the next record, no byte back
  on : f ≤ g → (end - g) * suc n + (n - (i + 1)) < (end - f) * suc n + (n - i)
  on m =
      let less : end - g ≤ end - f = omega arith in
      omega (arith, mul-le-mul_right (suc n) less)

  -- back to a record, a byte on
  back : (j : ℕ) → f < end → f < g → (end - g) * suc n + (n - j) < (end - f) * suc n + (n - i)
  back j b m =
      let less : suc (end - g) ≤ end - f = omega arith in
      omega (arith, mul-le-mul_right (suc n) less, suc-mul (end - g) (suc n))

module _ {l : List Fetch} {lo end : ℕ} {w : Sweep} (z : Swept l lo end w) where
  -- past a record that delivers nothing from f on: the bytes up to f are delivered by u records
  passes : (s u f : ℕ) → Settles w.settled w.next s → w.from ≤ f → f < w.gap → w.used ≤ u
      → ((x : ℕ) → w.from ≤ x → x < f → Has l u x) → ((k : ℕ) → k < u → Lacks l lo end k)
      → ((x : ℕ) → f ≤ x → x < end → In (nth l w.next) x → ⊥)
      → Swept l lo end (record { next = w.next + 1; settled = s; used = u; from = f; gap = w.gap; reach = w.reach })
  passes s u f settles on-from inside most new needed quiet =
      record {
        low = omega (arith, z.low);
        tops = z.tops;
        ahead = λ h. inside;
        before = omega (arith, settles.most z.before);
        front = λ x g h. split x w.from (λ p. more most (z.front x g p)) (λ p. new x p h);
        behind = λ x g h. more (omega arith) (z.behind x g h);
        missing = λ j x h g t. below_more (λ k. In (nth l k) x → ⊥) w.next (λ k below. z.missing k x below (omega arith) t) (quiet x g (omega (arith, z.tops))) j h;
        settles = λ j x h g t. split j w.settled (λ p. z.settles j x p (omega arith) t) (λ p. subst (λ (k : ℕ). In (nth l k) x → ⊥) (sym (settles.only j h p)) (quiet x g t));
        needed = needed;
      }

  -- the gap is closed: u records deliver the bytes up to f, and the sweep goes back to those that
  -- are not settled
  closes : (u f : ℕ) → w.from ≤ f → w.used ≤ u → ((x : ℕ) → w.from ≤ x → x < f → Has l u x) → ((k : ℕ) → k < u → Lacks l lo end k)
      → Swept l lo end (record { next = w.settled; settled = w.settled; used = u; from = f; gap = end; reach = end })
  closes u f on-from most new needed =
      record {
        low = omega (arith, z.low);
        tops = omega arith;
        ahead = λ h. h;
        before = omega arith;
        front = λ x g h. split x w.from (λ p. more most (z.front x g p)) (λ p. new x p h);
        behind = λ x g h. absurd (omega arith);
        missing = λ j x h g t. z.settles j x h (omega arith) t;
        settles = λ j x h g t. z.settles j x h (omega arith) t;
        needed = needed;
      }

  -- past a record that delivers nothing before g: from g to e all is delivered
  shrinks : (g e : ℕ) → w.from < g → g ≤ w.gap → ((x : ℕ) → g ≤ x → x < e → Has l (w.next + 1) x) → ((x : ℕ) → x < g → In (nth l w.next) x → ⊥)
      → Swept l lo end (record { next = w.next + 1; settled = w.settled; used = w.used; from = w.from; gap = g; reach = e })
  shrinks g e inside low new quiet =
      record {
        low = z.low;
        tops = omega (arith, z.tops);
        ahead = λ h. inside;
        before = omega (arith, z.before);
        front = z.front;
        behind = new;
        missing = λ j x h f t. below_more (λ k. In (nth l k) x → ⊥) w.next (λ k below. z.missing k x below f (omega arith)) (quiet x t) j h;
        settles = z.settles;
        needed = z.needed;
      }

  -- no record before the next one delivers the byte at from, so that one is needed where it does
  needs_next : w.from < end → (k : ℕ) → k < max w.used (w.next + 1) → Lacks l lo end k
  needs_next h k m =
      split k w.used (z.needed k) (λ p. record { byte = w.from; low = z.low; high = h; none = λ j g. z.missing j w.from (omega arith) (omega arith) (z.ahead h) })

module _ {w : Sweep} {a b end : ℕ} where
  -- each case of a step
  module _ {s : ℕ} (settles : Settles w.settled w.next s) where
    pub quiet_step : Misses w a b end
        → Steps w a b end (record { next = w.next + 1; settled = s; used = w.used; from = w.from; gap = w.gap; reach = w.reach })
    quiet_step quiet =
        record {
          keeps = λ l lo z h ea eb. passes z s w.used w.from settles (omega arith) (z.ahead h) (omega arith) (λ x g f. absurd (omega arith)) z.needed
              (λ x g f t. quiet x g f (omega (arith, t.low)) (omega (arith, t.high)));
          falls = λ n h g i. on end n w.from w.from w.next i (omega arith);
        }

    pub front_step : {u : ℕ} → u ≡ max w.used (w.next + 1) → a ≤ w.from → w.from < b → b < w.gap
        → Steps w a b end (record { next = w.next + 1; settled = s; used = u; from = b; gap = w.gap; reach = w.reach })
    front_step {u} e low high inside =
        record {
          keeps = λ l lo z h ea eb. passes z s u b settles (omega arith) inside (omega arith)
              (λ x g f. record { which = w.next; among = omega arith; within = record { low = omega arith; high = omega arith } })
              (λ k m. needs_next z h k (omega arith)) (λ x g f t. omega (arith, t.high));
          falls = λ n h g i. on end n w.from b w.next i (omega arith);
        }

  pub closing_step : {u f : ℕ} → u ≡ max w.used (w.next + 1) → f ≡ max b w.reach → a ≤ w.from → w.from < b → w.gap ≤ b
      → Steps w a b end (record { next = w.settled; settled = w.settled; used = u; from = f; gap = end; reach = end })
  closing_step {u} {f} e m low high whole =
      record {
        keeps = λ l lo z h ea eb. closes z u f (omega arith) (omega arith)
            (λ x g t. split x b
            (λ p. record { which = w.next; among = omega arith; within = record { low = omega arith; high = omega arith } })
            (λ p. more (omega arith) (z.behind x (omega arith) (omega arith))))
            (λ k t. needs_next z h k (omega arith));
        falls = λ n h g i. back end n w.from f w.next i w.settled h (omega arith);
      }

  pub end_step : {e : ℕ} → e ≡ max b w.reach → w.from < a → a < w.gap → w.gap ≤ b
      → Steps w a b end (record { next = w.next + 1; settled = w.settled; used = w.used; from = w.from; gap = a; reach = e })
  end_step {e} m low high whole =
      record {
        keeps = λ l lo z h ea eb. shrinks z a e low (omega arith)
            (λ x g t. split x b
            (λ p. record { which = w.next; among = omega arith; within = record { low = omega arith; high = omega arith } })
            (λ p. more (omega arith) (z.behind x (omega arith) (omega arith))))
            (λ x g t. omega (arith, t.low));
        falls = λ n h g i. on end n w.from w.from w.next i (omega arith);
      }

  pub middle_step : w.from < a → a < w.gap
      → Steps w a b end (record { next = w.next + 1; settled = w.settled; used = w.used; from = w.from; gap = a; reach = b })
  middle_step low high =
      record {
        keeps = λ l lo z h ea eb. shrinks z a b low (omega arith)
            (λ x g t. record { which = w.next; among = omega arith; within = record { low = omega arith; high = omega arith } })
            (λ x g t. omega (arith, t.low));
        falls = λ n h g i. on end n w.from w.from w.next i (omega arith);
      }

  pub reach_step : {e : ℕ} → e ≡ max b w.reach → w.gap ≤ a → a ≤ w.reach
      → Steps w a b end (record { next = w.next + 1; settled = w.settled; used = w.used; from = w.from; gap = w.gap; reach = e })
  reach_step {e} m low high =
      record {
        keeps = λ l lo z h ea eb. shrinks z w.gap e (z.ahead h) (omega arith)
            (λ x g t. split x w.reach
            (λ p. more (omega arith) (z.behind x g p))
            (λ p. record { which = w.next; among = omega arith; within = record { low = omega arith; high = omega arith } }))
            (λ x g t. omega (arith, t.low));
        falls = λ n h g i. on end n w.from w.from w.next i (omega arith);
      }

  pub far_step : w.gap ≤ a
      → Steps w a b end (record { next = w.next + 1; settled = w.settled; used = w.used; from = w.from; gap = w.gap; reach = w.reach })
  far_step low =
      record {
        keeps = λ l lo z h ea eb. shrinks z w.gap w.reach (z.ahead h) (omega arith) (λ x g t. more (omega arith) (z.behind x g t)) (λ x g t. omega (arith, t.low));
        falls = λ n h g i. on end n w.from w.from w.next i (omega arith);
      }
