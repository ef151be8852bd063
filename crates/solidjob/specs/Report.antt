-- What the program prints for a job (01, "Job file").
use Rattle.std.specs.Prelude.{◌≡◌, refl, Bool, true, List, [], ℕ, ◌*◌, ◌≤◌, length, take, Ok, Err}
use Rattle.std.proofs.Common.{sym, ap, ◌∙◌, append-nil, arith, length-take-le, take_at}
use Rattle.std.proofs.lemmas.List.Edits.{sets, sets-eq}
use Rattle.std.proofs.Math.Seq.{length-sets}
use Rattle.refusal.specs.Outcome.{Outcome}
use Rattle.space.specs.Shapes.{Face}
use Rattle.lent.specs.Lent.{number_by}
use Rattle.ended.specs.declared.Ended.{Ended}
use Rattle.ended.specs.Ends.{ended_of, written}
use Rattle.fused_bytes.specs.Bytes.{fused_answer}
use Rattle.lines.specs.Text.{answer_line, walk, lines_of}
use Rattle.solidjob.specs.Bodies.{fused_lines, lines_bodies}
use Rattle.fuse_lent.specs.Lent.{lends}
use Rattle.fuse_lent.specs.Laws.{lends_all}
use Rattle.fuse_served.specs.Entry.{fuse_entry}
use Rattle.solidjob.specs.Short.{entry_short}

-- the n first elements of a list are there
abbrev pub IsPrefixLen : ℕ → List ℕ → Type 0
IsPrefixLen n xs = (n ≤ length xs) × (n ≡ length (take n xs))

-- "A refusal prints the first line alone, with its number"
unfoldable pub printed : Outcome (List ℕ) → List ℕ
printed (Ok l) = lines_of 0 l
printed (Err r) = answer_line r.number

-- "reads it from standard input, lends room for 720 corners, and fuses"
unfoldable pub report : List ℕ → List ℕ
report job = printed (fuse_entry true 720 job)

-- of an answer the lines of its bodies are printed, each count the length of its list
pub report_bodies : (job : List ℕ) (bs : List (List (List Face))) → fuse_entry true 720 job ≡ Ok (fused_answer bs) → report job ≡ fused_lines bs
unfolding report printed
report_bodies job bs e = ap printed e ∙ lines_bodies bs (omega (arith, entry_short true 720 job (fused_answer bs) e))

-- ---- the code

unfoldable pub bytes_of : Outcome (List ℕ) → List ℕ
bytes_of (Ok l) = l
bytes_of (Err r) = []

bytes_taken : (o : Outcome (List ℕ)) (a : List ℕ) → (ended_of o).bytes ≤ length a → take (ended_of o).bytes (written o a) ≡ bytes_of o
unfolding bytes_of ended_of written
bytes_taken (Ok l) a h = ap (take (length l)) (sets-eq l a 0 (omega (arith, h))) ∙ take_at l _ (length l) refl
bytes_taken (Err r) a h = refl

-- what the job's call hands on
abbrev pub Done : List ℕ → Ended → List ℕ → Type 0
Done l r a' = ((r ≡ ended_of (fuse_entry true 720 l)) × (r.bytes ≤ 46080)) × ((take r.bytes a' ≡ bytes_of (fuse_entry true 720 l)) × IsPrefixLen r.bytes a')

done : (l a a' : List ℕ) (r : Ended) → r ≡ ended_of (fuse_entry true 720 l) → r.bytes ≤ 46080 → a' ≡ written (fuse_entry true 720 l) a → length a ≡ 46080 → length a' ≡ length a → Done l r a'
done l a a' r e n w k m =
    let o = fuse_entry true 720 l in
    let b : r.bytes ≡ (ended_of o).bytes = ap (λ x. x.bytes) e in (
      (e, n),
      (
        ap (λ x. take x a') b ∙ ap (take (ended_of o).bytes) w ∙ bytes_taken o a (omega (arith, b, n, k)),
        (omega (arith, n, k, m), sym (length-take-le r.bytes a' (omega (arith, n, k, m)))),
      ),
    )

-- what is lent is enough for a room of 720 corners
abbrev roomy : ℕ → Bool
roomy n = lends 720 n 4144 9584 9584 848 848 848 721 721 720 720 720 721 2160 1440 721 720 720 721 720 720 720

is_roomy : (n : ℕ) → n ≡ 46080 → roomy n ≡ true
is_roomy n e = lends_all 720 n 4144 9584 9584 848 848 848 721 721 720 720 720 721 2160 1440 721 720 720 721 720 720 720 (record { low = omega arith; answer_fits = omega (arith, e); rest_fits = omega arith; spare_fits = omega arith; dst_fits = omega arith; held_fits = omega arith; slots_fit = omega arith; counts_fit = omega arith; sizes_fit = omega arith; seats_fit = omega arith; lengths_fit = omega arith; owners_fit = omega arith; cells_fit = omega arith; cuts_fit = omega arith; runs_fit = omega arith; keys_fit = omega arith; begins_fit = omega arith; ord_fits = omega arith; ends_fit = omega arith; marks_fit = omega arith; out_fits = omega arith; many_fit = omega arith; shells_fit = omega arith })

pub job_fused : (l a a' : List ℕ) (r : Ended) → ((r ≡ ended_of (fuse_entry (roomy (length a)) 720 l)) × (r.bytes ≤ 274877906944) × (r.bytes ≤ 64 * 720)) × (a' ≡ written (fuse_entry (roomy (length a)) 720 l) a) → length a ≡ 46080 → length a' ≡ length a → Done l r a'
job_fused l a a' r h k m =
    let q = is_roomy (length a) k in
    done l a a' r (h.0.0 ∙ ap (λ b. ended_of (fuse_entry b 720 l)) q) (omega (arith, h.0.2)) (h.1 ∙ ap (λ b. written (fuse_entry b 720 l) a) q) k m

printed_is : (o : Outcome (List ℕ)) → lines_of (number_by (ended_of o).verdict) (bytes_of o) ≡ printed o
unfolding number_by printed ended_of bytes_of lines_of walk
printed_is (Ok l) = refl
printed_is (Err r) = append-nil (answer_line r.number)

pub report_put : (l a text text' : List ℕ) (e : Ended) (n r : ℕ) → Done l e a → n ≡ number_by e.verdict → (r ≡ length (lines_of n (take e.bytes a))) × (r ≤ length text) → text' ≡ sets text 0 (lines_of n (take e.bytes a)) →
    ((r ≡ length (report l)) × IsPrefixLen r text') × (text' ≡ sets text 0 (report l))
unfolding report
report_put l a text text' e n r d q g t =
    let o = fuse_entry true 720 l in
    let k : lines_of n (take e.bytes a) ≡ report l = ap (λ x. lines_of x (take e.bytes a)) (q ∙ ap (λ x. number_by x.verdict) d.0.0) ∙ ap (lines_of (number_by (ended_of o).verdict)) d.1.0 ∙ printed_is o in
    let m : length text' ≡ length text = ap length t ∙ length-sets text 0 (lines_of n (take e.bytes a)) in
    ((g.0 ∙ ap length k, (omega (arith, g.1, m), sym (length-take-le r text' (omega (arith, g.1, m))))), t ∙ ap (sets text 0) k)
