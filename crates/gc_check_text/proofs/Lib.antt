mod OneMachine
mod OneOutcome
mod OneVerdict
mod Outcomes
mod Places
mod SimpleAutomata
mod SortedOnce
mod Verdicts
