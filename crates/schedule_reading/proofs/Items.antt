-- Items of lines as those of events, by their signed numbers.
use Rattle.schedule_reading.proofs.Common.{◌≡◌, ℕ, ◌^◌, ◌<◌, ℤ, IsTrue, sym, ap, ◌∙◌, nat_eq, w32, FitsSigned, of_z, to_z, ◌↔◌, eq-eqb, eqb-true, to_z-of_z, signed, to_z-signed, item_of, Item}
use Rattle.event_trace.specs.declared.events.EventKind.{EventKind}
use Rattle.event_trace.specs.declared.events.EventKind.TheVariants as kinds

same_value : (a b : ℤ) → Item.Arrive a ≡ Item.Arrive b → a ≡ b
same_value a b e = cc

same_data : (m n : ℕ) (a b : ℤ) → Item.Data m a ≡ Item.Data n b → a ≡ b
same_data m n a b e = cc

module _ (value read : ℤ) (word : ℕ) (fits : FitsSigned w32 value) (fits_read : FitsSigned w32 read) (is : read ≡ to_z w32 word) (small : word < 2 ^ 32) where
  forth : IsTrue (nat_eq (of_z w32 value) (of_z w32 read)) → value ≡ signed word
  forth t = sym (to_z-of_z w32 value fits) ∙ ap (to_z w32) (eqb-true (of_z w32 value) (of_z w32 read) t) ∙ to_z-of_z w32 read fits_read ∙ is ∙ to_z-signed word small

  back : value ≡ signed word → IsTrue (nat_eq (of_z w32 value) (of_z w32 read))
  back e = eq-eqb (of_z w32 value) (of_z w32 read) (ap (of_z w32) (e ∙ sym (to_z-signed word small) ∙ sym is))

  pub arrives : (item : Item) (kind : EventKind) → item ≡ Item.Arrive value → kind ≡ kinds.Arrive word → IsTrue (nat_eq (of_z w32 value) (of_z w32 read)) ↔ (item ≡ item_of kind)
  arrives item kind i k = (
    (λ t. i ∙ ap (λ (z : ℤ). Item.Arrive z) (forth t) ∙ sym (ap item_of k)),
    (λ e. back (same_value value (signed word) (sym i ∙ e ∙ ap item_of k))),
  )

  pub carries : (item : Item) (kind : EventKind) (channel to : ℕ) → channel ≡ to → item ≡ Item.Data channel value → kind ≡ kinds.Message to word → IsTrue (nat_eq (of_z w32 value) (of_z w32 read)) ↔ (item ≡ item_of kind)
  carries item kind channel to same i k = (
    (λ t. i ∙ ap (λ (z : ℤ). Item.Data channel z) (forth t) ∙ ap (λ (n : ℕ). Item.Data n (signed word)) same ∙ sym (ap item_of k)),
    (λ e. back (same_data channel to value (signed word) (sym i ∙ e ∙ ap item_of k))),
  )
