-- Laws of records that are laid: one, none, and some behind others.
-- Assumes nothing.
use Rattle.std.proofs.Common.{◌≡◌, refl, sym, ◌∙◌, ap, ℕ, zero, suc, ◌+◌, ◌-◌, ◌*◌, ◌≤◌, ◌<◌, List, [], ◌∷◌, ◌++◌, map, length, get_or, take, drop, replicate, append_assoc, add-zero, add-one, add_assoc, eqb, arith, length-append, length-take, length-drop}
use Rattle.std.proofs.lemmas.List.{length-map}
use Rattle.std.proofs.lemmas.List.Edits.{sets}
use Rattle.std.proofs.Math.Seq.{length-sets, take-suc}
use borrow.Author.Tests.{eq-eqb, ne_eqb}
use Rattle.proof_lists.specs.Stores.{sets-append, copied-over, pasted}
use Rattle.proof_lists.specs.Tests.{cond_cases}
use Rattle.rules.specs.declared.Event.{Event}
use Rattle.plan_rules.specs.Records.{record_of, records_of}
use Rattle.plan_rules.specs.Plan.{start, byte, stop, tick, ticks, selecting}
use Rattle.plan_rules.proofs.Back.{records-length}
use Rattle.plan_pages.specs.declared.records.Plan.{Plan}
use Rattle.plan_pages.specs.declared.records.Step.{Step}
use Rattle.plan_pages.specs.Laid.{event_of, with_laid, exchanging}

-- records after records, and four bytes for each
records-append : (es fs : List Event) → records_of (es ++ fs) ≡ records_of es ++ records_of fs
unfolding records_of
records-append [] fs = refl
records-append (e ∷ es) fs = ap (λ (l : List ℕ). record_of e ++ l) (records-append es fs) ∙ sym (append_assoc (record_of e) (records_of es) (records_of fs))

-- none
pub laid_none : (p : Plan) → p ≡ with_laid [] p
unfolding records_of
laid_none p = rw add-zero

-- one, as its four bytes are copied
pub laid_one : (p : Plan) (e : Step) (bytes part : List ℕ) → bytes ≡ record_of (event_of e) → 4 * p.count + 4 ≤ length p.buffer.now → part ≡ bytes
    → take (4 * p.count) p.buffer.now ++ (part ++ drop (4 * p.count + 4 - 4 * p.count) (drop (4 * p.count) p.buffer.now))
    ≡ (with_laid (event_of e ∷ []) p).buffer.now
unfolding records_of record_of
laid_one p e bytes part g h f =
    let at : ℕ = 4 * p.count in
    let four : length bytes ≡ 4 = ap length g in
    let own : length (take (at + 4 - at) (drop at p.buffer.now)) ≤ length bytes = simp (length-take, length-drop) (omega arith) in
    pasted p.buffer.now bytes part at (at + 4) (omega arith) h (copied-over part bytes _ f own) ∙ ap (sets p.buffer.now at) g

-- how many records stand there then, and the buffer's length
pub laid-sizes : (es : List Event) (p q : Plan) → q ≡ with_laid es p → (q.count ≡ p.count + length es) × (length q.buffer.now ≡ length p.buffer.now)
laid-sizes es p q e = (
  ap (λ (x : Plan). x.count) e,
  ap (λ (x : Plan). length x.buffer.now) e ∙ length-sets p.buffer.now (4 * p.count) (records_of es),
)

-- some behind others
pub laid_then : (es fs : List Event) (p : Plan) → with_laid fs (with_laid es p) ≡ with_laid (es ++ fs) p
laid_then es fs p =
    let i : 4 * p.count + length (records_of es) ≡ 4 * (p.count + length es) = omega (arith, records-length es) in
    rw (length-append es fs, records-append es fs, sets-append p.buffer.now (4 * p.count) (records_of es) (records_of fs), i, add_assoc p.count (length es) (length fs))

-- one tick more, and one byte more
pub ticks-more : (i : ℕ) (p : Plan) → with_laid (tick ∷ []) (with_laid (ticks i) p) ≡ with_laid (ticks (i + 1)) p
unfolding ticks
ticks-more i p = laid_then (ticks i) (tick ∷ []) p ∙ ap (λ (es : List Event). with_laid es p) (rw add-one (go i))
  where
    go : (i : ℕ) → replicate i tick ++ tick ∷ [] ≡ replicate (suc i) tick
    go zero = refl
    go (suc i) = ap (λ (l : List Event). tick ∷ l) (go i)

pub bytes-more : (i : ℕ) (s : List ℕ) (p : Plan) → i < length s → with_laid (byte (get_or s i 0) ∷ []) (with_laid (map byte (take i s)) p) ≡ with_laid (map byte (take (i + 1) s)) p
bytes-more i s p h = laid_then (map byte (take i s)) (byte (get_or s i 0) ∷ []) p ∙ ap (λ (es : List Event). with_laid es p) (rw (add-one, take-suc s i 0) (go (take i s) (get_or s i 0)))
  where
    go : (q : List ℕ) (v : ℕ) → map byte q ++ byte v ∷ [] ≡ map byte (q ++ v ∷ [])
    go [] v = refl
    go (a ∷ q) v = ap (λ (l : List Event). byte a ∷ l) (go q v)

-- an exchange from its parts, and how many records it has
pub exchange-by : (control : ℕ) (sent : List ℕ) (p : Plan)
    → with_laid (stop ∷ []) (with_laid (map byte sent) (with_laid (byte control ∷ []) (with_laid (start ∷ []) p))) ≡ with_laid (exchanging control sent) p
unfolding exchanging
exchange-by control sent p = simp laid_then

pub length-exchange : (control : ℕ) (sent : List ℕ) → length (exchanging control sent) ≡ length sent + 3
unfolding exchanging
length-exchange control sent = rw (length-append (map byte sent) (stop ∷ []), length-map sent byte) (omega arith)

-- the half stands already, or another one does
pub selecting-none : (stands half : ℕ) → half ≡ stands → selecting stands half ≡ []
unfolding selecting
selecting-none stands half e = rw (eq-eqb half stands e)

pub selecting-other : (stands half : ℕ) → (half ≡ stands → ⊥) → selecting stands half ≡ exchanging (0x6C + 2 * half) []
unfolding selecting exchanging
selecting-other stands half h = rw (ne_eqb half stands h)

pub length-selecting : (stands half : ℕ) → length (selecting stands half) ≤ 3
unfolding selecting
length-selecting stands half = cond_cases (λ (l : List Event). length l ≤ 3) (eqb half stands) (λ e. omega arith) (λ e. omega arith)
