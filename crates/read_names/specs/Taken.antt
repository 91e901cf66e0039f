-- Nothing taken in changes nothing.
use Rattle.std.specs.Prelude.{[]}
use Rattle.std.proofs.Common.{refl, sym, subst, append-nil}
use Rattle.read_names.specs.Names.{Packs, PacksOn, HashesOn, hash_from}
use Rattle.read_names.specs.declared.packed.Packed.{Packed}
use Rattle.read_names.specs.declared.table.Hash.{Hash}

pub packs_none : (p : Packed) → PacksOn p [] p
packs_none p name k = subst (λ s. Packs s p) (sym (append-nil name)) k

pub hashes_none : (h : Hash) → HashesOn h [] h
unfolding hash_from
hashes_none h = (refl, refl)
