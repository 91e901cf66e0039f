-- The shelf from the hospital side: every call has one answer, and a refusal leaves all as lent.
use Prim.Native.Nat.{ℕ}
use mathlib.Core.Path.{◌≡◌, sym, ◌∙◌}
use mathlib.Core.List.{List}
use lib.ListN.{length}
use Rattle.shelf_list.specs.Calls.{put, remove}
use Rattle.hospital.specs.ShelfCalls.{PutsInto, RemovesFrom, StandsAt, called_fetch, FetchesInto}
use Rattle.hospital.proofs.FetchCalls.{fetched_leaves}
use Rattle.hospital.proofs.ShelfAnswers.{told_leaves}

-- "any two answers allowed by it are equal": number, what is stored beside it, and each byte of the lent buffers.
pub determined_shelf_put : {key purpose n n' at at' : ℕ} {text area area₁ area₂ : List ℕ} → PutsInto key purpose text area n at area₁
    → PutsInto key purpose text area n' at' area₂ → (n ≡ n') × (at ≡ at') × (area₁ ≡ area₂)
determined_shelf_put a b = (a.number ∙ sym b.number, a.place ∙ sym b.place, a.area_left ∙ sym b.area_left)

pub determined_shelf_fetch : {key n n' at at' : ℕ} {area strings table strings₁ strings₂ table₁ table₂ : List ℕ}
    → FetchesInto key area strings table n at strings₁ table₁ → FetchesInto key area strings table n' at' strings₂ table₂
    → (n ≡ n') × (at ≡ at') × (strings₁ ≡ strings₂) × (table₁ ≡ table₂)
determined_shelf_fetch a b =
    (a.number ∙ sym b.number, a.place ∙ sym b.place, a.strings_left ∙ sym b.strings_left, a.table_left ∙ sym b.table_left)

pub determined_shelf_remove : {key n n' : ℕ} {area area₁ area₂ : List ℕ} → RemovesFrom key area n area₁ → RemovesFrom key area n' area₂
    → (n ≡ n') × (area₁ ≡ area₂)
determined_shelf_remove a b = (a.number ∙ sym b.number, a.area_left ∙ sym b.area_left)

pub determined_shelf_at : {position n n' k k' : ℕ} {area : List ℕ} → StandsAt position area n k → StandsAt position area n' k'
    → (n ≡ n') × (k ≡ k')
determined_shelf_at a b = (a.number ∙ sym b.number, a.stands ∙ sym b.stands)

-- Where the number is not 0, each lent byte is as it was.
pub refused_put_leaves_all : {key purpose n at : ℕ} {text area area' : List ℕ} → PutsInto key purpose text area n at area' → (n ≡ 0 → ⊥)
    → area' ≡ area
refused_put_leaves_all {key} {purpose} {text = text} {area = area} a h =
    a.area_left ∙ told_leaves (put key purpose text) area (λ e. h (a.number ∙ e))

pub refused_remove_leaves_all : {key n : ℕ} {area area' : List ℕ} → RemovesFrom key area n area' → (n ≡ 0 → ⊥) → area' ≡ area
refused_remove_leaves_all {key} {area = area} a h = a.area_left ∙ told_leaves (remove key) area (λ e. h (a.number ∙ e))

pub refused_fetch_leaves_all : {key n at : ℕ} {area strings table strings' table' : List ℕ}
    → FetchesInto key area strings table n at strings' table' → (n ≡ 0 → ⊥) → (strings' ≡ strings) × (table' ≡ table)
refused_fetch_leaves_all {key} {area = area} {strings = strings} {table = table} a h =
    let l = fetched_leaves (called_fetch area key (length strings) (length table)) strings table (λ e. h (a.number ∙ e)) in
    (a.strings_left ∙ l.0, a.table_left ∙ l.1)
