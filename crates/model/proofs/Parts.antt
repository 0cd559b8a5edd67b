-- The parts of equal answers are equal.
-- Assumes nothing.
use mathlib.Core.Path.{◌≡◌, ap}
use Prim.Native.Nat.{ℕ}
use Rattle.model.specs.declared.Refusal.{Refusal}
use Rattle.model.specs.declared.Refused.{Refused}
use Rattle.model.specs.declared.Found.{Found}
use Rattle.model.specs.declared.Missing.{Missing}
use Rattle.model.specs.Answer.{refusal_at, refusing}
use Rattle.model.specs.Find.{found_at, not_found}

pub refusing-parts : {w v : Refusal} {p q : ℕ} → refusing w p ≡ refusing v q → (w ≡ v) × (p ≡ q)
refusing-parts {w} {v} {p} {q} e =
    let f : refusal_at w p ≡ refusal_at v q = cc in
    (ap (λ x. x.refusal) f, ap (λ x. x.position) f)

pub found-parts : {p q n m : ℕ} → found_at p n ≡ found_at q m → (p ≡ q) × (n ≡ m)
found-parts {p} {q} {n} {m} e =
    let f : ◌≡◌ {A = Found} (record { place = p; compared = n }) (record { place = q; compared = m }) = cc in
    (ap (λ x. x.place) f, ap (λ x. x.compared) f)

pub missing-parts : {w v : Refusal} {n m : ℕ} → not_found w n ≡ not_found v m → (w ≡ v) × (n ≡ m)
missing-parts {w} {v} {n} {m} e =
    let f : ◌≡◌ {A = Missing} (record { refusal = w; compared = n }) (record { refusal = v; compared = m }) = cc in
    (ap (λ x. x.refusal) f, ap (λ x. x.compared) f)
