mod RegexLemmas
