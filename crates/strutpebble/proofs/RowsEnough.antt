-- As many rows as a header counts are enough: a reader with them says of the header what measuring
-- says, whatever its cap. Assumes nothing.
use Prim.Native.Nat.{ℕ, zero, suc, ◌≤◌}
use mathlib.Core.Path.{◌≡◌, refl, sym, ap, ◌∙◌}
use mathlib.Core.List.{List, ◌∷◌}
use mathlib.Core.Bool.{Bool}
use lib.ListN.{length}
use lib.Dec.{leb}
use native.Mathlib.Omega.{arith}
use borrow.Author.Tests.{le-leb}
use Rattle.reading.specs.Back.{Sure}
use Rattle.reading.specs.Ceilings.{under}
use Rattle.reading.specs.Each.{each, times, fold}
use Rattle.reading.specs.Reading.{Reading, done, Answer, accepted, refused, run, ◌>>=◌, here, and_then, seen}
use Rattle.reading.specs.declared.Limits.{Limits}
use Rattle.reading.proofs.CeilingLaws.{under_bind, run-under}
use Rattle.reading.proofs.RunLaws.{run_bind}
use Rattle.reading.proofs.SureLaws.{sure_then, sure_done, sure_here, sure_check, sure_run, sure_under, whatever}
use Rattle.reading.proofs.Repetition.{seen-accepted}
use Rattle.reading.proofs.Views.{bind_same}
use Rattle.values.specs.Format.{size, key, value, keeping, entry}
use Rattle.values.specs.declared.Dialect.{Dialect}
use Rattle.values.specs.declared.Entry.{Entry}
use Rattle.values.specs.declared.Key.{Key}
use Rattle.values.specs.declared.Value.{Value}
use Rattle.header.specs.Answers.{reader_run}
use Rattle.header.specs.Format.{latest, header}
use Rattle.start.specs.Format.{magic, version, counts, start}
use Rattle.header.specs.declared.Header.{Header}
use Rattle.start.specs.declared.Rooms.{Rooms}
use Rattle.start.specs.declared.Start.{Start}
use Rattle.header.proofs.DataStart.{kept-alignment}
use Rattle.start.proofs.StartMarks.{under-counts}
use Rattle.start.proofs.RowsForCounts.{Room}
use Rattle.header.proofs.Judged.{sure_judged}
use Rattle.header.proofs.Stages.{Started, Aligned, told, no_entries, no_header, reached}
use Rattle.start.specs.Format.{enough}
use Rattle.words.specs.Words.{measured}

-- an entry, of which the cap decides what is kept
abbrev entry_of : ℕ → Key → Value → Entry
entry_of cap x v = record { key = x.span; is_alignment = x.is_alignment; value = keeping x.is_tokenizer cap v }

-- what an entry does to the alignment is the same under any two caps
module _ (k : Dialect) (cap cap' : ℕ) (s : List ℕ) (a : ℕ) where
  entry-same : (p : ℕ) → seen (latest a) (run (entry k cap) s p) ≡ seen (latest a) (run (entry k cap') s p)
  unfolding entry run seen
  entry-same p =
      bind_same (latest a) (key k) s p _ _ (λ x q. bind_same (latest a) (value k) s q (λ v. done (entry_of cap x v)) (λ v. done (entry_of cap' x v)) (λ v o.
      rw (kept-alignment x.is_tokenizer cap v, kept-alignment x.is_tokenizer cap' v) refl))

-- what is folded over a list, once its first is known
first-folded : {A T : Type 0} (g : T → A → T) (y : T) (a : A) (s : List ℕ) (r : Answer (List A))
    → seen (fold g y) (and_then r (λ more o. run (done (a ∷ more)) s o)) ≡ seen (fold g (g y a)) r
unfolding seen and_then run
first-folded g y a s (accepted l o) = refl
first-folded g y a s (refused n o) = refl

-- and so is the alignment of all entries
module _ (k : Dialect) (cap cap' : ℕ) (s : List ℕ) where
  after_first : (c n a : ℕ) (e : Entry) (q : ℕ)
      → seen (fold latest a) (run (times n (entry k c) >>= (λ more. done (e ∷ more))) s q) ≡ seen (fold latest (latest a e)) (run (times n (entry k c)) s q)
  after_first c n a e q =
      ap (seen (fold latest a)) (run_bind (times n (entry k c)) (λ more. done (e ∷ more)) s q) ∙ first-folded latest a e s (run (times n (entry k c)) s q)

  turn-same : (n a : ℕ) (r r' : Answer Entry) → seen (latest a) r ≡ seen (latest a) r'
      → ((b q : ℕ) → seen (fold latest b) (run (times n (entry k cap)) s q) ≡ seen (fold latest b) (run (times n (entry k cap')) s q))
      → seen (fold latest a) (and_then r (λ e o. run (times n (entry k cap) >>= (λ more. done (e ∷ more))) s o))
      ≡ seen (fold latest a) (and_then r' (λ e o. run (times n (entry k cap') >>= (λ more. done (e ∷ more))) s o))
  unfolding seen and_then
  turn-same n a (accepted e q) (accepted e' q') h rest =
      let i : latest a e ≡ latest a e' = cc in
      let j : q ≡ q' = cc in
      after_first cap n a e q ∙ rest (latest a e) q ∙ rw (i, j) (sym (after_first cap' n a e' q'))
  turn-same n a (accepted e q) (refused w o) h rest = let z : ◌≡◌ {A = ℕ} 0 1 = cc in absurd (omega arith)
  turn-same n a (refused w o) (accepted e q) h rest = let z : ◌≡◌ {A = ℕ} 0 1 = cc in absurd (omega arith)
  turn-same n a (refused w o) (refused w' o') h rest = cc

  entries-same : (n a p : ℕ) → seen (fold latest a) (run (times n (entry k cap)) s p) ≡ seen (fold latest a) (run (times n (entry k cap')) s p)
  unfolding each
  entries-same zero a p = refl
  entries-same (suc n) a p =
      ap (seen (fold latest a)) (run_bind (entry k cap) _ s p)
      ∙ turn-same n a (run (entry k cap) s p) (run (entry k cap') s p) (entry-same k cap cap' s a p) (entries-same n)
      ∙ ap (seen (fold latest a)) (sym (run_bind (entry k cap') _ s p))

-- the counts, where there are rows for as many
counts-read : (rooms : Rooms) (k : Dialect) (s : List ℕ) (o : ℕ) {n q m r : ℕ} → accepted n q ≡ run (size k) s o → accepted m r ≡ run (size k) s q
    → n ≤ rooms.tensors → m ≤ rooms.entries → run (counts rooms k) s o ≡ accepted (record { dialect = k; tensors = n; entries = m }) r
unfolding counts here run and_then
counts-read rooms k s o e f h g = rw (run_bind, run_bind, ← e, run_bind, run_bind, ← f, run_bind, le-leb _ _ h, run_bind, le-leb _ _ g) refl

sure_counts : (rooms : Rooms) (k : Dialect) (s : List ℕ) (o : ℕ) → Sure s (counts enough k) o (λ c u. Room rooms c → accepted c u ≡ run (counts rooms k) s o)
unfolding counts
sure_counts rooms k s o =
    sure_here _ (sure_then (sure_run whatever) (λ n q e. sure_here _ (sure_then (sure_run whatever) (λ m r f.
    sure_check (leb n enough.tensors) 6 o _ (λ x. sure_check (leb m enough.entries) 6 q _ (λ y. sure_done (λ room. sym (counts-read rooms k s o e.1 f.1 room.1 room.0))))))))

module _ (l : Limits) (s : List ℕ) where
  -- one program after another, with ceilings
  sure_limited : {A B : Type 0} (m : Reading A) (f : A → Reading B) {p : ℕ} {P : A → ℕ → Type 0} {Q : B → ℕ → Type 0}
      → Sure s (under l m) p P → ((a : A) (q : ℕ) → P a q → Sure s (under l (f a)) q Q) → Sure s (under l (m >>= f)) p Q
  sure_limited m f {p} first rest = record { holds = λ b r e. (sure_then first rest).holds b r (e ∙ ap (λ x. run x s p) (under_bind l m f)) }

  -- all that stands before the first record, where there are rows for as many as it counts
  start-read : (rooms : Rooms) (p : ℕ) {turned : Bool} {q : ℕ} {k : Dialect} {r : ℕ} {c : Start} {u : ℕ} → accepted turned q ≡ run (under l magic) s p → accepted k r ≡ run (under l (version turned)) s q
      → accepted c u ≡ run (counts rooms k) s r → accepted c u ≡ run (under l (start rooms)) s p
  unfolding start and_then
  start-read rooms p {k = k} {r} e f g = g ∙ rw (run-under l, ← e, run-under l, ← f, under-counts l rooms k s r) refl

  sure_start : (rooms : Rooms) → Sure s (under l (start enough)) 0 (λ c u. Room rooms c → accepted c u ≡ run (under l (start rooms)) s 0)
  unfolding start
  sure_start rooms =
      sure_limited magic _ (sure_run whatever) (λ turned q e. sure_limited (version turned) _ (sure_run whatever) (λ k r f. record {
        holds = λ c u g room. start-read rooms 0 e.1 f.1 ((sure_counts rooms k s r).holds c u (g ∙ under-counts l enough k s r) room);
      }))

module _ (l : Limits) (cap : ℕ) (rooms : Rooms) (s : List ℕ) (c : Start) (p : ℕ) (began : Started l enough 3 s c p) (room : Room rooms c) where
  begins : Started l rooms cap s c p
  begins = (sure_start l s rooms).holds c p began room

  -- the answer of the reader with these rows and this cap
  abbrev ours : Answer Header
  ours = seen (λ w. w.head) (run (under l (header rooms cap)) s 0)

  same-told : (a q : ℕ) → Aligned l enough 3 s c p a q → Aligned l rooms cap s c p a q → (r : Answer Header) → r ≡ told l rooms cap s c a q → ours ≡ measured l s
  unfolding seen
  same-told a q f g (refused n u) t =
      ap (seen (λ w. w.head)) (no_header l rooms cap s begins g t ∙ sym (no_header l enough 3 s began f t))
  same-told a q f g (accepted h o) t =
      ap (seen (λ w. w.head)) (reached l rooms cap s begins g t).all ∙ sym (ap (seen (λ w. w.head)) (reached l enough 3 s began f t).all)

  same_entries : (r : Answer ℕ) → r ≡ seen (fold latest 32) (run (times c.entries (entry c.dialect 3)) s p) → ours ≡ measured l s
  same_entries (accepted a q) f = same-told a q f (f ∙ entries-same c.dialect 3 cap s c.entries 32 p) _ refl
  same_entries (refused n q) f =
      ap (seen (λ w. w.head)) (no_entries l rooms cap s begins (f ∙ entries-same c.dialect 3 cap s c.entries 32 p) ∙ sym (no_entries l enough 3 s began f))

  -- where the counts are read, and there are rows for as many, the reader says what measuring says:
  -- a header or a refusal
  pub same_answer : ours ≡ measured l s
  same_answer = same_entries _ refl

-- what is known of the start of a header that was accepted
record Begun (l : Limits) (s : List ℕ) (h : Header) : Type 0 where
  c : Start
  p : ℕ
  began : Started l enough 3 s c p
  entries : h.entries ≡ c.entries
  tensors : h.tensors ≡ c.tensors

sure_begun : (l : Limits) (s : List ℕ) → Sure s (under l (header enough 3)) 0 (λ w q. Begun l s w.head)
unfolding header
sure_begun l s =
    sure_limited l s (start enough) _ (sure_run whatever) (λ c p e. sure_under l (sure_then whatever (λ es q u. sure_then whatever (λ ts r v.
    sure_here _ (sure_judged c es ts r (λ tested. record { c = c; p = p; began = e.1; entries = refl; tensors = refl }))))))

-- what is measured is read, with any cap, by whoever has as many rows as it counts
pub rows-enough : (l : Limits) (cap : ℕ) (es ts : List (List ℕ)) (s : List ℕ) {h : Header} {q : ℕ} → accepted h q ≡ measured l s
    → h.entries ≤ length es → h.tensors ≤ length ts → seen (λ w. w.head) (reader_run l cap es ts s) ≡ accepted h q
rows-enough l cap es ts s {h} {q} e f g =
    let w = seen-accepted (λ w. w.head) (under l (header enough 3)) s 0 e in
    let b = (sure_begun l s).holds w.0 q w.1 in
    let i : h.entries ≡ b.c.entries = ap (λ x. x.entries) w.2 ∙ b.entries in
    let j : h.tensors ≡ b.c.tensors = ap (λ x. x.tensors) w.2 ∙ b.tensors in
    let m : b.c.entries ≤ length es = omega arith in
    let n : b.c.tensors ≤ length ts = omega arith in
    same_answer l cap (record { entries = length es; tensors = length ts }) s b.c b.p b.began (m, n) ∙ sym e
