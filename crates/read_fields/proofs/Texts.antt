-- Texts in a field: absent, empty, without room, or read.
use Prim.Native.Nat.{ℕ, ◌-◌, ◌<◌, ◌≤◌}
use mathlib.Core.Path.{◌≡◌, refl, sym, ◌∙◌}
use mathlib.Core.List.{List}
use mathlib.Core.Bool.{Bool, true, false, cond}
use mathlib.Core.Option.{none, some}
use lib.ListN.{length, drop}
use lib.Dec.{ltb}
use borrow.Author.Tests.{ltb-true, ltb-false}
use native.Mathlib.Omega.{arith}
use Rattle.std.specs.Prelude.{Option as Maybe, Some, None, Result, Ok, Err}
use Rattle.json_move.specs.Read.{decoded}
use Rattle.json_move.specs.declared.Kind.TheVariants as K
use Rattle.document.specs.Schema as S
use Rattle.document.specs.Visit.{State, Outcome, laid, present, chars, is_empty}
use Rattle.document.specs.Told.{Tells, longer}
use Rattle.document.specs.declared.refusal.Refusal.{Refusal}
use Rattle.document.specs.declared.refusal.Reason.TheVariants as R
use Rattle.document.specs.declared.terms.Terms.{Terms}
use Rattle.document.specs.declared.terms.Used.{Used}
use Rattle.document.proofs.Strings.{empty_of_length, some_of_length}
use Rattle.document.proofs.Taken.{has_room, no_room, tells_laid}
use Rattle.read_fields.specs.Fields.{Words, ReadsText, ReadsOptionalText}
use Rattle.read_fields.specs.Reading.{standing, Required, OfKind, missing, roomed}
use Rattle.read_fields.specs.declared.field.Worded.{Worded}
use Rattle.read_fields.proofs.Values.{nothing_stands, needed_missing, said, string_refused, optional_refused}

module _ {text : List ℕ} {slot : Maybe ℕ} where
  pub text_missing : {brace : ℕ} {r : Refusal} → Required text brace slot (Err r) → (terms : Terms) (u : Used) → brace ≤ length text → ReadsText terms text brace slot u (Err r)
  text_missing e terms u h f s l told = needed_missing e h s (S.a_string S.text) l

  pub text_absent : standing text slot ≡ None → (terms : Terms) (u : Used) → ReadsOptionalText terms text slot u (Ok (record { quote = 0; len = 0; used = u }))
  text_absent e terms u f s p l told = record { value = none; state = l; outcome = (nothing_stands s e).absent (S.a_string S.text) p l; tells = told; holds = (refl, refl) }

given_text : (terms : Terms) (text : List ℕ) (o : Outcome (List ℕ)) (r : Result Worded Refusal) → Words terms text o (λ cs. some cs) r → Words terms text (present o) (λ x. x) r
given_text terms text o (Ok w) h = record { value = some h.value; state = h.state; outcome = rw h.outcome; tells = h.tells; holds = h.holds }
given_text terms text o (Err r) h = record { outcome = rw h.outcome; inside = h.inside }

-- What a text that is there comes to.
in_room : {terms : Terms} {text : List ℕ} {u : Used} {l : State} (v n : ℕ) → Tells terms text u l → v < length text → n ≡ length (decoded (drop v text)) → 0 < n
    → Words terms text (chars S.text (drop v text) (decoded (drop v text)) l) (λ cs. some cs) (roomed terms v n u)
in_room {terms} {text} {u} {l} v n told inside q filled = go (ltb (terms.room - u.text) n) refl
  where
    go : (b : Bool) → ltb (terms.room - u.text) n ≡ b
        → Words terms text (chars S.text (drop v text) (decoded (drop v text)) l) (λ cs. some cs) (cond b (Err (record { 0 = R.NoTextRoom; 1 = v })) (Ok (record { quote = v; len = n; used = longer n u })))
    go true h = record { outcome = rw (← q, no_room told n (ltb-true (terms.room - u.text) n h)); inside = omega (arith, inside) }
    go false h =
        let fits = ltb-false (terms.room - u.text) n h in
        record { value = decoded (drop v text); state = laid n l; outcome = rw (← q, has_room told n fits); tells = tells_laid told n fits; holds = (refl, sym q, filled) }

not_empty : (text : List ℕ) (v n : ℕ) → n ≡ length (decoded (drop v text)) → (n ≡ 0 → ⊥) → is_empty (decoded (drop v text)) ≡ false
not_empty text v n q m = some_of_length (decoded (drop v text)) (λ h. m (q ∙ h))

-- A text of n decoded bytes.
module _ {text : List ℕ} {slot : Maybe ℕ} {at v : ℕ} (e : standing text slot ≡ Some at) (k : OfKind text at K.Text (Ok v)) (n : ℕ) (q : n ≡ length (decoded (drop v text))) (terms : Terms) (u : Used) where
  pub text_empty : (brace : ℕ) → brace ≤ length text → n ≡ 0 → ReadsText terms text brace slot u (Err (missing brace))
  text_empty brace h z f s l told = record { outcome = (said e s S.text k).reads (drop brace text) l ∙ rw (empty_of_length (decoded (drop v text)) (sym q ∙ z)); inside = h }

  pub empty_given : n ≡ 0 → ReadsOptionalText terms text slot u (Ok (record { quote = 0; len = 0; used = u }))
  empty_given z f s p l told =
      record {
        value = none;
        state = l;
        outcome = (said e s S.text k).given p l ∙ rw (empty_of_length (decoded (drop v text)) (sym q ∙ z));
        tells = told;
        holds = (refl, refl);
      }

  module _ (m : n ≡ 0 → ⊥) where
    pub text_needed : (brace : ℕ) (r : Result Worded Refusal) → r ≡ roomed terms v n u → ReadsText terms text brace slot u r
    text_needed brace r w f s l told =
        let d = said e s S.text k in
        rw (w, d.reads (drop brace text) l, not_empty text v n q m) (in_room v n told d.inside q (omega (arith, m)))

    pub text_given : (r : Result Worded Refusal) → r ≡ roomed terms v n u → ReadsOptionalText terms text slot u r
    text_given r w f s p l told =
        let d = said e s S.text k in
        rw (w, d.given p l, not_empty text v n q m) (given_text terms text (chars S.text (drop v text) (decoded (drop v text)) l) (roomed terms v n u) (in_room v n told d.inside q (omega (arith, m))))

module _ {text : List ℕ} {slot : Maybe ℕ} {at : ℕ} {r : Refusal} (e : standing text slot ≡ Some at) (k : OfKind text at K.Text (Err r)) (terms : Terms) (u : Used) where
  pub text_refused : (brace : ℕ) → ReadsText terms text brace slot u (Err r)
  text_refused brace f s l told = string_refused e s S.text k (drop brace text) l

  pub text_not_given : ReadsOptionalText terms text slot u (Err r)
  text_not_given f s p l told = optional_refused e s S.text k p l
