-- The calls `locate_numbers` and `locate`, case by case: a refusal, too little room, and the rows written.
use mathlib.Core.Path.{◌≡◌, sym, ap, ◌∙◌}
use Prim.Native.Nat.{ℕ, ◌*◌, ◌≤◌, ◌<◌}
use native.Mathlib.Omega.{arith}
use mathlib.Core.List.{List}
use lib.ListN.{length}
use lib.Seq.{sets}
use borrow.Author.Tests.{le-leb, lt-leb}
use Rattle.format.specs.Answer.{ok, Got}
use Rattle.format.specs.Coding.{Bytes}
use Rattle.format.specs.Table.{Form, set}
use Rattle.format.specs.Packet.{Entry}
use Rattle.format.specs.Read.{start, parse}
use Rattle.format.specs.Rows.{Row, rows_of, locate}
use Rattle.format.proofs.Demands.Sizes.{sizes as size_law}
use Rattle.items.proofs.Tests.{bind_so, bind_not}
use Rattle.tally.specs.declared.Sizes.{Sizes}
use Rattle.tally.specs.Runs.{level_run}
use Rattle.check_packet.specs.Checks.{Checked, Fine, Wrong}
use Rattle.check_packet.specs.Meet.{checked_of}
use Rattle.check_packet.proofs.Parsing.{wrong_parsed}
use Rattle.check_packet.proofs.Opened.{fine, opened, start_is, lent_set, lent_is, set_ran, set_long}
use Rattle.stores.proofs.Stores.{sets_start}
use Rattle.write_rows.specs.Meet.{numbers, level_rows, level_numbers, LevelAsked, LevelLeft}
use Rattle.write_rows.proofs.Numbers.{numbers_long, level_set}
use Rattle.write_rows.proofs.Packet.{rows_whole}
use Rattle.answers.specs.Meet.{Answer, left_of, answer_of, refusal_of}
use Rattle.locate.specs.Meet.{leaves_rows}

rows_short : (lent : List ℕ) (rs : List Row) → length lent < 4 * length rs → left_of (answer_of 16 (length rs)) lent ≡ leaves_rows lent (ok rs)
unfolding leaves_rows
rows_short lent rs h = rw (lt-leb (4 * length rs) (length lent) h, leaves_rows)

rows_written : (lent : List ℕ) (rs : List Row) → 4 * length rs ≤ length lent → left_of (answer_of 0 (length rs)) (sets lent 0 (numbers rs)) ≡ leaves_rows lent (ok rs)
unfolding leaves_rows
rows_written lent rs h = rw (le-leb (4 * length rs) (length lent) h, leaves_rows, sets_start lent (numbers rs) (omega (arith, numbers_long rs)), numbers_long rs)

-- the rows of a set, by where it begins and by its bytes
rows_at : (f : Form) (es : Got (List Entry)) {n k : ℕ} → n ≡ k → {d u : List ℕ} → d ≡ u → level_run set f d ≡ ok es → numbers (level_rows 0 n es.val) ≡ level_numbers set f 0 k u
rows_at f es e z r = rw (← e, ← z, r)

module _ (f : Form) (s lent : List ℕ) {c : Checked} (ec : c ≡ checked_of (parse f s)) where
  pub locate_refused : {n k : ℕ} {r : Answer} → c ≡ Wrong n k → r ≡ refusal_of c → left_of r lent ≡ leaves_rows lent (locate f s)
  unfolding locate leaves_rows
  locate_refused {n = n} {k = k} t e =
      ap (λ x. left_of x lent) (e ∙ ap refusal_of t) ∙ ap (leaves_rows lent) (sym (bind_not (parse f s) _ n k (wrong_parsed f s n k (sym t ∙ ec))))

  module _ (b : Bytes s) {a : Sizes} {k : ℕ} (t : c ≡ Fine a k) where
    abbrev found : List Row
    found = rows_of (fine f s ec b t).0

    count_is : length found ≡ a.rows
    count_is = let e = (fine f s ec b t).2 in cc

    locate_is : locate f s ≡ ok found
    unfolding locate
    locate_is = bind_so (parse f s) _ (fine f s ec b t).0 (fine f s ec b t).1

    pub found_few : a.rows ≤ 4096
    found_few = omega (arith, count_is, ((size_law f s b).rows found locate_is).1)

    pub locate_short : length lent < 4 * a.rows → {r : Answer} → r ≡ answer_of 16 a.rows → left_of r lent ≡ leaves_rows lent (locate f s)
    locate_short h er =
        ap (λ r. left_of r lent) (er ∙ ap (answer_of 16) (sym count_is)) ∙ rows_short lent found (omega (arith, count_is)) ∙ ap (leaves_rows lent) (sym locate_is)

    found_is : numbers found ≡ level_numbers set f 0 k (lent_set f s ec b t)
    found_is =
        let o = opened f s ec b t in
        ap numbers (rows_whole o ∙ sym (level_set (start f o.width) o.es.val)) ∙ rows_at f o.es (sym (start_is f s ec b t)) (sym (lent_is f s ec b t)) o.runs

    found_size : length (level_numbers set f 0 k (lent_set f s ec b t)) ≡ 4 * a.rows
    found_size = omega (arith, ap length found_is, numbers_long found, count_is)

    -- what the walk that writes is asked for
    pub rows_asked : 4 * a.rows ≤ length lent → LevelAsked set 0 k (lent_set f s ec b t) (length lent) f
    rows_asked h = record { few = set_long f s ec b t; ran = set_ran f s ec b t; fits = omega (arith, found_size) }

    pub locate_done : 4 * a.rows ≤ length lent → {n : ℕ} {out : List ℕ} → LevelLeft set 0 k (lent_set f s ec b t) lent n out
        → {r : Answer} → r ≡ answer_of 0 a.rows → left_of r out ≡ leaves_rows lent (locate f s)
    locate_done h {out = out} eo {r = r} er =
        let stored : out ≡ sets lent 0 (numbers found) = (eo f (rows_asked h)).1 ∙ ap (sets lent 0) (sym found_is) in
        ap (left_of r) stored
        ∙ ap (λ r. left_of r (sets lent 0 (numbers found))) (er ∙ ap (answer_of 0) (sym count_is))
        ∙ rows_written lent found (omega (arith, count_is))
        ∙ ap (leaves_rows lent) (sym locate_is)
