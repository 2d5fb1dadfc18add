-- The passes of clients that are near the latest are at most the greatest stride apart.
use Rattle.stride_rule.proofs.Common.{ℕ, ◌≡◌, ◌+◌, ◌-◌, ◌≤◌, min, max, Option, Some, None, List, [], ◌∷◌, refl, arith, AllByRecursion, Client, Row, clients_of, most_from, most_among, least_from, least_among, first_pass, apart_in, IsNear}

most-le : (latest greatest pass : ℕ) (cs : List Client) → pass ≤ latest + greatest → AllByRecursion (IsNear latest greatest) cs → most_from pass cs ≤ latest + greatest
most-le latest greatest pass [] h near = h
most-le latest greatest pass (c ∷ cs) h near =
    most-le latest greatest (max pass c.pass) cs (let k : c.pass ≤ latest + greatest = near.0.most in omega arith) near.1

least-ge : (latest greatest pass : ℕ) (cs : List Client) → latest ≤ pass → AllByRecursion (IsNear latest greatest) cs → latest ≤ least_from pass cs
least-ge latest greatest pass [] h near = h
least-ge latest greatest pass (c ∷ cs) h near =
    least-ge latest greatest (min pass c.pass) cs (let k : latest ≤ c.pass = near.0.least in omega arith) near.1

pub apart-le : (latest greatest : ℕ) (cs : List Client) → AllByRecursion (IsNear latest greatest) cs → apart_in cs ≤ greatest
apart-le latest greatest [] near = omega arith
apart-le latest greatest (c ∷ cs) near =
    let most : most_from c.pass cs ≤ latest + greatest = most-le latest greatest c.pass cs near.0.most near.1 in
    let least : latest ≤ least_from c.pass cs = least-ge latest greatest c.pass cs near.0.least near.1 in
    omega arith

-- ---- at places

most_among_is : (pass : ℕ) (ps : List (Option Row)) → most_among pass ps ≡ most_from pass (clients_of ps)
most_among_is pass [] = refl
most_among_is pass (None ∷ ps) = most_among_is pass ps
most_among_is pass (Some r ∷ ps) = most_among_is (max pass r.client.pass) ps

least_among_is : (pass : ℕ) (ps : List (Option Row)) → least_among pass ps ≡ least_from pass (clients_of ps)
least_among_is pass [] = refl
least_among_is pass (None ∷ ps) = least_among_is pass ps
least_among_is pass (Some r ∷ ps) = least_among_is (min pass r.client.pass) ps

apart_from_first : (pass : ℕ) (cs : List Client) → Some pass ≡ first_pass cs → most_from pass cs - least_from pass cs ≡ apart_in cs
apart_from_first pass [] e = absurd cc
apart_from_first pass (c ∷ cs) e =
    let same : pass ≡ c.pass = cc in
    let most : max pass c.pass ≡ c.pass = omega arith in
    let least : min pass c.pass ≡ c.pass = omega arith in
    rw (most, least) refl

pub apart_among : (pass : ℕ) (ps : List (Option Row)) → Some pass ≡ first_pass (clients_of ps) → most_among pass ps - least_among pass ps ≡ apart_in (clients_of ps)
apart_among pass ps e = rw (most_among_is pass ps, least_among_is pass ps) (apart_from_first pass (clients_of ps) e)
