-- A `&` to a deed shows nothing. Assumes `Logic`.
use Rattle.chunk_pool.proofs.Common.{RattleType, RawPtr, nothing_shr_laws, of_Lends, Lends-nothing}
use denote.Param.Laws.{Laws}
use denote.Param.Shared.{copy_shared}
use denote.Struct.Laws.{field_copy}
use Rattle.core.specs.declared.alloc.Allocator.{Ghosts}
use Rattle.core.specs.contracts.marker.PhantomData as marker
use Rattle.chunk_pool.specs.contracts.block.Deed as deed
use Rattle.chunk_pool.proofs.block.Deed.TheLaw.Statement.{statement}

pub shares : (A : RattleType) (g : Ghosts A.Denot) (L : Laws A) → statement A g L
shares A g L =
    of_Lends (deed.struct A g) (deed.the_codes A.Denot A.coded (marker.the_row RawPtr).coded) (deed.the_heap A g) (deed.the_lent A g) (λ d p. nothing_shr_laws)
    (copy_shared (marker.the_field RawPtr) (field_copy (marker.the_type RawPtr) tt), tt) (λ M 𝓤 𝓛 d p. Lends-nothing 𝓛 (deed.the_heap A g d) (deed.the_row A g).lives)
