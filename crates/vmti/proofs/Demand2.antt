-- Demand 2 of the calls, from their contracts and that demand of the definitions.
use mathlib.Core.Path.{◌≡◌, refl, sym, ap, ◌∙◌}
use mathlib.Core.List.{List, []}
use Prim.Native.Nat.{ℕ, ◌≤◌}
use lib.ListN.{length}
use borrow.Author.Tests.{le-leb}
use Rattle.format.specs.Answer.{ok, refused, ◌>>=◌, need}
use Rattle.format.specs.Coding.{Bytes}
use Rattle.format.specs.Table.{Form, embedded}
use Rattle.format.specs.Packet.{Packet, flat}
use Rattle.format.specs.Read.{parse, limit}
use Rattle.format.specs.Room.{leaves}
use Rattle.format.specs.Sheet.{Sheet, content, sheet_bytes, unsheet}
use Rattle.format.specs.Calls.{packet_of, packed, read, write, normalise}
use Rattle.format.specs.Edit.{the_set}
use Rattle.format.specs.Valid.{Lies}
use Rattle.format.proofs.Words.Answers.{ok_inj, bind_then}
use Rattle.format.proofs.Reading.Packets.{parse_says, lies_parses}
use Rattle.format.proofs.Sheets.Sheets.{sheet_says, sheet_back}
use Rattle.format.proofs.Demands.Accepted.{read_is, read_then}
use Rattle.format.proofs.Demands.Demand1.{numbered}
use Rattle.format.proofs.Demands.Demand2.{normal_is, normal, write_then, sheet_again}
use Rattle.answers.specs.Meet.{Answer}
use Rattle.answers.specs.Calls.{Reads, Writes, Normalises}
use Rattle.answers.proofs.Results.{one_result}
use Rattle.vmti.specs.Demand2.{Reading, Normalising, Fits, Writing, Demand2}
use Rattle.answers.proofs.Given.{given, refusing, accepted_only, wrote, one_left}

-- a packet that has a normal form is valid, and that is its
normal_then : {X : Type 0} (f : Form) (s : List ℕ) → Bytes s → (b : List ℕ) → normalise f s ≡ ok b → ((p : Packet) → Lies f s p → flat (packet_of (content p)) ≡ b → X) → X
unfolding normalise
normal_then f s h b e k = bind_then _ _ _ e λ p ep _. k p (parse_says f s p h ep) (ok_inj _ _ (sym (normal_is f s h p ep) ∙ e))

-- ---- read

module _ (f : Form) (packet lent : List ℕ) (a : Answer) (left : List ℕ) where
  pub reading : Bytes packet → Reads f packet lent a left → Reading f packet lent a left
  reading h e = record {
    valid = λ p l. given lent left a _ (e ∙ ap (leaves lent) (read_is f packet p (lies_parses f packet p l)));
    only = λ y.
        let (b, q) = accepted_only lent left a (length packet) (read f packet) (numbered f packet the_set []).read_answers e y in
        read_then f packet b q λ p ep _. (p, parse_says f packet p h ep);
    refusing = refusing lent left a (read f packet) e;
  }

  -- ---- normalise

  pub normalising : Bytes packet → Normalises f packet lent a left → Normalising f packet lent a left
  normalising h e = record {
    valid = λ p l. given lent left a _ (e ∙ ap (leaves lent) (normal_is f packet h p (lies_parses f packet p l)));
    only = λ y.
        let (b, q) = accepted_only lent left a (length packet) (normalise f packet) (numbered f packet the_set []).normalise_answers e y in
        normal_then f packet h b q λ p l _. (p, l);
    refusing = λ n p q. refusing lent left a (normalise f packet) e n p (((normal f packet h).refuses n p).1 q);
  }

-- ---- write

write_is : (sheet : List ℕ) (t : Sheet) → Fits sheet t → write sheet ≡ ok (flat (packet_of t))
unfolding write packed limit ◌>>=◌ need
write_is sheet t h =
    let e : unsheet sheet ≡ ok t = ap unsheet (sym h.bytes) ∙ sheet_back t h.valid in
    rw (e, le-leb (length (flat (packet_of t))) 8192 h.small)

pub writing : (sheet lent : List ℕ) (a : Answer) (left : List ℕ) → Bytes sheet → Writes sheet lent a left → Writing sheet lent a left
writing sheet lent a left h e = record {
  valid = λ t k. given lent left a _ (e ∙ ap (leaves lent) (write_is sheet t k));
  only = λ y.
      let (b, q) = accepted_only lent left a (length sheet) (write sheet) (numbered embedded sheet the_set []).write_answers e y in
      write_then sheet b q λ t et l z. let (s, v) = sheet_says sheet t h et in (t, record { bytes = s; valid = v; small = l });
  refusing = refusing lent left a (write sheet) e;
}

-- ---- one solution each

module _ (lent : List ℕ) (a c : Answer) (left then : List ℕ) where
  pub one_reading : (f : Form) (packet : List ℕ) → Bytes packet → Reading f packet lent a left → Reading f packet lent c then → (a ≡ c) × (left ≡ then)
  one_reading f packet h r s =
      one_left (read f packet) lent a c left then
      (λ b e. read_then f packet b e λ p ep z. let l = parse_says f packet p h ep in (rw z at (r.valid p l), rw z at (s.valid p l)))
      r.refusing
      s.refusing

  pub one_normalising : (f : Form) (packet : List ℕ) → Bytes packet → Normalising f packet lent a left → Normalising f packet lent c then → (a ≡ c) × (left ≡ then)
  one_normalising f packet h r s =
      one_left (normalise f packet) lent a c left then
      (λ b e. normal_then f packet h b e λ p l z. (rw z at (r.valid p l), rw z at (s.valid p l)))
      (λ n p q. r.refusing n p (((normal f packet h).refuses n p).0 q))
      (λ n p q. s.refusing n p (((normal f packet h).refuses n p).0 q))

  pub one_writing : (sheet : List ℕ) → Bytes sheet → Writing sheet lent a left → Writing sheet lent c then → (a ≡ c) × (left ≡ then)
  one_writing sheet h r s =
      one_left (write sheet) lent a c left then
      (λ b e. write_then sheet b e λ t et l z.
      let (q, v) = sheet_says sheet t h et in
      let k : Fits sheet t = record { bytes = q; valid = v; small = l } in
      (rw z at (r.valid t k), rw z at (s.valid t k)))
      r.refusing
      s.refusing

-- ---- one call after another

pub demand_2 : Demand2
demand_2 = record {
  reading = reading;
  normalising = normalising;
  writing = writing;
  write_after_read = λ f packet lent a left h e z.
      let (sheet, q, s) = wrote lent left a (length packet) (read f packet) (numbered f packet the_set []).read_answers e z in
      record {
        normalises = λ out b after eb c then ec.
            one_result b c after then (leaves out (normalise f packet)) (eb ∙ ap (λ x. leaves out (write x)) s ∙ ap (leaves out) (sym ((normal f packet h).is_both sheet q))) ec;
      };
  read_after_write = λ sheet lent a left h e z.
      let (bytes, q, s) = wrote lent left a (length sheet) (write sheet) (numbered embedded sheet the_set []).write_answers e z in
      let (f, ef, er) = (sheet_again sheet h).again bytes q in
      record {
        sheet_again = λ g eg out b after eb.
            let same : g ≡ f = ok_inj _ _ (sym eg ∙ ef) in
            given out after b sheet (eb ∙ ap (λ x. leaves out (read g x)) s ∙ ap (λ y. leaves out (read y bytes)) same ∙ ap (leaves out) er);
      };
}
