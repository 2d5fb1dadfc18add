-- The table of the calls that the thread package answers: name, number, parameters, whether they give a result, and
-- whether they block the thread. No other crate has a copy of it.
use Rattle.std.specs.Prelude.{ℕ, Bool, true, false, List, [], ◌∷◌, Option, codes, find, nat_eq}
use Rattle.cap_word.specs.declared.modelled_calls.ModelledCall.{ModelledCall}

-- all modelled calls
abbrev pub all_calls : List ModelledCall
all_calls =
    ModelledCall.Accept
    ∷ ModelledCall.Wait
    ∷ ModelledCall.Sleep
    ∷ ModelledCall.Yield
    ∷ ModelledCall.Take
    ∷ ModelledCall.WaitFor
    ∷ ModelledCall.Put
    ∷ ModelledCall.Give
    ∷ ModelledCall.SelfNumber
    ∷ []

abbrev pub name_of : ModelledCall → List ℕ
name_of ModelledCall.Accept = codes "accept"
name_of ModelledCall.Wait = codes "wait"
name_of ModelledCall.Sleep = codes "sleep"
name_of ModelledCall.Yield = codes "yield"
name_of ModelledCall.Take = codes "take"
name_of ModelledCall.WaitFor = codes "waitfor"
name_of ModelledCall.Put = codes "put"
name_of ModelledCall.Give = codes "give"
name_of ModelledCall.SelfNumber = codes "self"

abbrev pub number_of : ModelledCall → ℕ
number_of ModelledCall.Accept = 16
number_of ModelledCall.Wait = 17
number_of ModelledCall.Sleep = 18
number_of ModelledCall.Yield = 19
number_of ModelledCall.Take = 20
number_of ModelledCall.WaitFor = 21
number_of ModelledCall.Put = 3
number_of ModelledCall.Give = 5
number_of ModelledCall.SelfNumber = 6

-- the number of `spawn`, which isn't a modelled call, since it names a function
abbrev pub spawn_number : ℕ
spawn_number = 4

abbrev pub parameters_of : ModelledCall → ℕ
parameters_of ModelledCall.Accept = 0
parameters_of ModelledCall.Wait = 1
parameters_of ModelledCall.Sleep = 1
parameters_of ModelledCall.Yield = 0
parameters_of ModelledCall.Take = 2
parameters_of ModelledCall.WaitFor = 2
parameters_of ModelledCall.Put = 1
parameters_of ModelledCall.Give = 2
parameters_of ModelledCall.SelfNumber = 0

abbrev pub gives_result : ModelledCall → Bool
gives_result ModelledCall.Accept = true
gives_result ModelledCall.Wait = true
gives_result ModelledCall.Sleep = false
gives_result ModelledCall.Yield = false
gives_result ModelledCall.Take = false
gives_result ModelledCall.WaitFor = true
gives_result ModelledCall.Put = false
gives_result ModelledCall.Give = false
gives_result ModelledCall.SelfNumber = true

abbrev pub blocks : ModelledCall → Bool
blocks ModelledCall.Accept = true
blocks ModelledCall.Wait = true
blocks ModelledCall.Sleep = true
blocks ModelledCall.Yield = true
blocks ModelledCall.Take = true
blocks ModelledCall.WaitFor = true
blocks ModelledCall.Put = false
blocks ModelledCall.Give = false
blocks ModelledCall.SelfNumber = false

-- the modelled call with this number
abbrev pub call_numbered : ℕ → Option ModelledCall
call_numbered number = find (λ call. nat_eq number (number_of call)) all_calls
