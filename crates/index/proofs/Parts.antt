-- The parts of a sheet record: what stands behind its head, and the declaration that bytes begin with.
-- Assumes nothing.
use mathlib.Core.Path.{◌≡◌, refl, sym, ◌∙◌, ap, ap₂, subst}
use mathlib.Core.Logic.{◌⊎◌, inl, inr}
use mathlib.Core.List.{List, [], ◌∷◌, ◌++◌, append-nil, append_assoc}
use Rattle.std.specs.Prelude.{Option, None, Some}
use denote.Ref.{Bor}
use Prim.Native.Nat.{ℕ, suc, ◌+◌, ◌-◌, ◌<◌}
use native.Mathlib.Omega.{arith}
use lib.Dec.{leb}
use lib.ListN.{length, take, get_or}
use lib.Seq.{take_at}
use borrow.Author.Tests.{ne_eqb}
use Rattle.model.specs.declared.Keyword.{Keyword}
use Rattle.model.specs.declared.Keyword.TheVariants as keyword
use Rattle.model.specs.Layout.{little_endian, record_of, piece_of, Bytes}
use Rattle.model.specs.Tree.{Field, Declaration}
use Rattle.model.specs.Record.{given, on_option, when, ended, on_piece, each_in, longest_record, decode_declaration, decode, decode_lone}
use Rattle.model.specs.Sheet.{declaration_in, sheet_from, decode_sheet}
use Rattle.model.proofs.Bounds.{record_size}
use Rattle.model.proofs.Pieces.{bytes_take, Begins, piece-read, piece-written}
use Rattle.model.proofs.Records.{decode-exactly}
use Rattle.record.specs.declared.Piece.{Piece}
use Rattle.record.specs.declared.Measured.{Measured}
use Rattle.record.specs.declared.Checked.{Checked}
use Rattle.record.specs.declared.Checked.TheVariants as checked
use Rattle.record.specs.Parts.{taken, PieceIs}
use Rattle.record.specs.Says.{Declares, Says}
use Rattle.index.specs.declared.Part.{Part}
use Rattle.index.specs.Indexes.{parts_in, AreRecords, PartIs}

-- The head.

ended-more : {A : Type 0} (t : List ℕ) (o : Option A) → (length t ≡ 0 → ⊥) → ended t o ≡ None
ended-more [] o h = absurd (h refl)
ended-more (c ∷ t) o h = refl

ended-none : {A : Type 0} (t : List ℕ) (o : Option A) → length t ≡ 0 → ended t o ≡ o
ended-none [] o h = refl
ended-none (c ∷ t) o h = absurd (omega arith)

pub sheet-short : (b : List ℕ) → PieceIs b None → decode_sheet b ≡ None
unfolding decode_sheet taken
sheet-short b i = rw (← i.same) refl

some-part : (k : ℕ) (t : List ℕ) → 0 < length t → parts_in (suc k) t ≡ on_piece (piece_of 4 t) (λ j body r. given (declaration_in j body) (λ d. on_option (λ es. d ∷ es) (parts_in k r)))
unfolding each_in
some-part k [] h = absurd (omega arith)
some-part k (c ∷ t) h = refl

module _ (b : List ℕ) (x : Piece) (i : PieceIs b (Some x)) where
  read : decode_sheet b ≡ ended x.rest.now (sheet_from x.kind x.body.now)
  unfolding decode_sheet taken
  read = rw (← i.same) refl

  pub sheet-other : (x.kind ≡ 0x30 → ⊥) → decode_sheet b ≡ None
  sheet-other h = read ∙ go x.rest.now
    where
      go : (t : List ℕ) → ended t (sheet_from x.kind x.body.now) ≡ None
      go [] = rw (ne_eqb x.kind 0x30 h) refl
      go (c ∷ t) = refl

  pub sheet_more : (length x.rest.now ≡ 0 → ⊥) → decode_sheet b ≡ None
  sheet_more h = read ∙ ended-more x.rest.now _ h

  -- all numbers of b are bytes
  module _ (bytes : (i : ℕ) → get_or b i 0 < 256) where
    begins : Begins 4 b x.kind x.body.now x.rest.now
    unfolding taken Bytes
    begins = piece-written 4 b x.kind x.body.now x.rest.now bytes (sym i.same)

    pub sheet-records : x.kind ≡ 0x30 → length x.rest.now ≡ 0 → AreRecords b x.body.now
    unfolding record_of
    sheet-records h g = record {
      same = read ∙ ended-none x.rest.now _ g ∙ rw (h) refl;
      there = record {
        before = little_endian 4 (6 + length x.body.now) ++ little_endian 2 x.kind;
        same = begins.parts ∙ nothing x.rest.now g ∙ sym (append_assoc (little_endian 4 (6 + length x.body.now)) (little_endian 2 x.kind) x.body.now);
      };
    }
      where
        nothing : (r : List ℕ) → length r ≡ 0 → record_of 4 x.kind x.body.now ++ r ≡ record_of 4 x.kind x.body.now
        nothing [] h = append-nil _
        nothing (c ∷ t) h = absurd (omega arith)

    -- the record that b begins with
    abbrev pub its-record : List ℕ
    its-record = take (length b - length x.rest.now) b

    its-length : length (record_of 4 x.kind x.body.now) ≡ length b - length x.rest.now
    its-length = omega (arith, i.covers, record_size x.kind x.body.now)

    record_is : its-record ≡ record_of 4 x.kind x.body.now
    record_is = ap (take (length b - length x.rest.now)) begins.parts ∙ take_at (record_of 4 x.kind x.body.now) x.rest.now _ its-length

    -- by itself it is read as one of a sheet
    decode_record : decode its-record ≡ declaration_in x.kind x.body.now
    unfolding decode
    decode_record = ap decode record_is ∙ rw (record_size x.kind x.body.now) (ap (when (leb (6 + length x.body.now) longest_record)) alone)
      where
        alone : on_piece (piece_of 4 (record_of 4 x.kind x.body.now)) (λ j c r. ended r (decode_declaration 4 j c)) ≡ decode_declaration 4 x.kind x.body.now
        alone = rw (← append-nil (record_of 4 x.kind x.body.now), piece-read 4 x.kind x.body.now [] begins.small begins.fits) refl

    step : 0 < length b → (k : ℕ) → parts_in (suc k) b ≡ given (decode its-record) (λ d. on_option (λ es. d ∷ es) (parts_in k x.rest.now))
    unfolding taken
    step h k = some-part k b h ∙ rw (← i.same, decode_record) refl

    part-bad : decode its-record ≡ None → PartIs b None
    part-bad e k h = step h k ∙ rw e refl

    module _ (l : Part) (q : l.record.now ≡ its-record) (z : l.rest.now ≡ x.rest.now) where
      part-said : (d : Declaration) → decode its-record ≡ Some d → PartIs b (Some l)
      unfolding Bytes
      part-said d e =
          let (g, u) = (decode-exactly its-record d (bytes_take _ b bytes)).0 e in
          record {
            declaration = d;
            one = record { bytes = q ∙ u; well = g };
            there = begins.parts ∙ ap₂ ◌++◌ (sym (q ∙ record_is)) (sym z);
            next = λ k. rw z (step (omega (arith, i.covers)) k ∙ rw e refl);
          }

      -- what the check says of it
      module _ (c : Checked) (s : Says (decode its-record) (decode_lone its-record) (Some c)) where
        pub part-declared : ((w : Keyword) × (nm : Bor (List ℕ)) × (n : Measured) × (u : Option Measured) × (c ≡ checked.Declared w nm n u)) ⊎ ((n : Measured) × (c ≡ checked.Constructor n)) → PartIs b (Some l)
        part-declared (inl (w, nm, n, u, e)) = go w (subst (λ v. Says (decode its-record) (decode_lone its-record) (Some v)) e s).0
          where
            go : (w : Keyword) → Declares w (decode its-record) nm.now n u → PartIs b (Some l)
            go keyword.Function d = part-said _ d.same
            go keyword.Constructor d = absurd d
            go keyword.Event d = part-said _ d.same
            go keyword.Error d = part-said _ d.same
        part-declared (inr (n, e)) = part-said _ (subst (λ v. Says (decode its-record) (decode_lone its-record) (Some v)) e s).0.same

    pub part-field : (c : Checked) → Says (decode its-record) (decode_lone its-record) (Some c) → (nm : Bor (List ℕ)) (n : Measured) → c ≡ checked.Field nm n → PartIs b None
    part-field c s nm n e = part-bad (subst (λ v. Says (decode its-record) (decode_lone its-record) (Some v)) e s).0

    pub part-ill : Says (decode its-record) (decode_lone its-record) None → PartIs b None
    part-ill s = part-bad s.0

pub part-none : (b : List ℕ) → PieceIs b None → PartIs b None
unfolding taken
part-none b i k h = some-part k b h ∙ rw (← i.same) refl

pub ruleset heads = (sheet-short, sheet-other, sheet_more)
